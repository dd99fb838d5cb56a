-- A page behind a page.
use Rattle.std.proofs.Common.{ℕ, ◌≡◌, List, [], ◌∷◌, ◌++◌, IsUtf8, map, refl, sym, ap, ◌∙◌, append_assoc, Some, None, Ok, Option, true, arith}
use Rattle.std.proofs.lemmas.Bool.Decides.{nat_tests}
use Rattle.std.specs.Io.KnownBytes.{Appends}
use Rattle.std.specs.List.{AllByRecursion}
use Rattle.html_tokenizer.proofs.UrlValues.Appending.{urls_from-anew, urls_from-append}
use Rattle.html_template.specs.PageUrls.{urls_of}
use Rattle.html_template.specs.Structure.{IsPageOf, JoinsWritten}
use Rattle.html_template.specs.TemplateFaults.{is_template, placed, template_of}
use Rattle.html_template.specs.Templates.{Chunk, Given, Markup, Slot, Fill, page, part_of, written}
use Rattle.html_template.proofs.JoinedParts.{is_template_of, joined_told, placed_of, placed_told}
use Rattle.html_template.proofs.Pages.{page_passes}

-- ---- templates

pub joined_template : (first second : List Given) → is_template first ≡ true → is_template second ≡ true → is_template (first ++ second) ≡ true
joined_template first second one two =
    is_template_of (first ++ second) (placed first ++ placed second)
    (joined_told first second (placed first) (placed second) (placed_told first one) (placed_told second two))

pub joined_placed : (first second : List Given) → is_template first ≡ true → is_template second ≡ true → placed (first ++ second) ≡ placed first ++ placed second
joined_placed first second one two = grind (arith, nat_tests, placed_of, joined_told, placed_told)

-- ---- their pages

pub joined_page : (first second : List Chunk) (texts others : List (List ℕ)) → Fill first texts →
    page (first ++ second) (texts ++ others) ≡ page first texts ++ page second others
joined_page [] second [] others full = refl
joined_page [] second (text ∷ texts) others full = absurd full
joined_page (Markup bytes ∷ first) second texts others full =
    ap (λ x. bytes ++ x) (joined_page first second texts others full) ∙ sym (append_assoc bytes (page first texts) (page second others))
joined_page (Slot p kind ∷ first) second [] others full = absurd full
joined_page (Slot p kind ∷ first) second (text ∷ texts) others full =
    ap (λ x. written p kind text ++ x) (joined_page first second texts others full.1)
    ∙ sym (append_assoc (written p kind text) (page first texts) (page second others))

joined_fill : (first second : List Chunk) (texts others : List (List ℕ)) → Fill first texts → Fill second others → Fill (first ++ second) (texts ++ others)
joined_fill [] second [] others full more = more
joined_fill [] second (text ∷ texts) others full more = absurd full
joined_fill (Markup bytes ∷ first) second texts others full more = joined_fill first second texts others full more
joined_fill (Slot p kind ∷ first) second [] others full more = absurd full
joined_fill (Slot p kind ∷ first) second (text ∷ texts) others full more = (full.0, joined_fill first second texts others full.1 more)

pub joined_utf8 : (texts others : List (List ℕ)) → AllByRecursion IsUtf8 texts → AllByRecursion IsUtf8 others → AllByRecursion IsUtf8 (texts ++ others)
joined_utf8 [] others utf8 more = more
joined_utf8 (text ∷ texts) others utf8 more = (utf8.0, joined_utf8 texts others utf8.1 more)

pub joined_pages : (first second : List Given) (texts others : List (List ℕ)) (front following : List ℕ) →
    IsPageOf first texts front → IsPageOf second others following → IsPageOf (first ++ second) (texts ++ others) (front ++ following)
joined_pages first second texts others front following one two = grind (arith, nat_tests, joined_placed, joined_template, joined_fill, joined_utf8, joined_page)

-- a page of no part
pub no_page : IsPageOf [] [] []
no_page = record { template = refl; full = tt; utf8 = tt; whole = refl }

-- no URL is open behind a page
pub joined_urls : (parts : List Given) (texts : List (List ℕ)) (front following : List ℕ) → IsPageOf parts texts front →
    urls_of (front ++ following) ≡ urls_of front ++ urls_of following
joined_urls parts texts front following is = grind (arith, nat_tests, page_passes, urls_from-append, urls_from-anew)

-- ---- what a template appends to a page

-- the page of a template that is at hand
pub page_of : (pieces : List Chunk) (texts : List (List ℕ)) → template_of (map part_of pieces) ≡ Ok pieces → Fill pieces texts → AllByRecursion IsUtf8 texts →
    IsPageOf (map part_of pieces) texts (page pieces texts)
page_of pieces texts told full utf8 = grind (arith, nat_tests)

pub page_after : (pieces : List Chunk) (texts : List (List ℕ)) {old new : List ℕ} → template_of (map part_of pieces) ≡ Ok pieces → Fill pieces texts →
    AllByRecursion IsUtf8 texts → new ≡ old ++ page pieces texts →
    (parts : List Given) (before : List (List ℕ)) → IsPageOf parts before old → IsPageOf (parts ++ map part_of pieces) (before ++ texts) new
page_after pieces texts {old} told full utf8 new parts before is =
    rw new (joined_pages parts (map part_of pieces) before texts old (page pieces texts) is (page_of pieces texts told full utf8))

pub urls_after : (pieces : List Chunk) (texts : List (List ℕ)) {old new : List ℕ} → new ≡ old ++ page pieces texts →
    (parts : List Given) (before : List (List ℕ)) → IsPageOf parts before old → urls_of new ≡ urls_of old ++ urls_of (page pieces texts)
urls_after pieces texts {old} new parts before is = rw new (joined_urls parts before old (page pieces texts) is)

-- or writes behind one
pub written_after : (pieces : List Chunk) (texts : List (List ℕ)) (old new : Option (List ℕ)) → template_of (map part_of pieces) ≡ Ok pieces → Fill pieces texts →
    AllByRecursion IsUtf8 texts → Appends old new (page pieces texts) → JoinsWritten (map part_of pieces) texts old new
written_after pieces texts None new told full utf8 appends = tt
written_after pieces texts (Some old) None told full utf8 appends = tt
written_after pieces texts (Some old) (Some new) told full utf8 appends = page_after pieces texts told full utf8 appends
