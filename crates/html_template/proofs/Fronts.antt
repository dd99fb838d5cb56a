-- What follows a slot with which a URL begins tells whether it is a base: the markup is taken only where the slot was taken for what it is.
use Rattle.std.proofs.Common.{ℕ, zero, suc, ◌≡◌, ◌==◌, ◌&&◌, ◌||◌, Bool, true, false, List, [], ◌∷◌, ◌++◌, Option, Some, None, Ok, length, take, nat_lt, refl, sym, ap, ◌∙◌, subst, bytes_eq, codes, if◌then◌else◌, arith, inl, inr}
use Rattle.std.proofs.lemmas.Bool.Decides.{nat_tests}
use Rattle.std.proofs.lemmas.Bool.{cases_Bool}
use Rattle.std.specs.Char.{is_ascii_alphanumeric}
use Rattle.std.specs.Option.{option_map}
use Rattle.html_template.specs.declared.open_url.OpenUrl.{OpenUrl}
use Rattle.html_template.specs.declared.open_url.OpenUrl.TheVariants.{Outside, Within, Listed, Whole, Front, Declaration}
use Rattle.html_template.specs.declared.open_url.PlacedSlot.{PlacedSlot}
use Rattle.html_template.specs.OpenUrls.{before, begun, behind_link, url_markup, url_length}
use Rattle.html_tokenizer.specs.Tokenizer.Values.References.{goes_on}
use Rattle.html_tokenizer.specs.declared.slot_place.SlotPlace.{SlotPlace}
use Rattle.html_tokenizer.specs.UrlValues.{url_text, url_text_from}
use Rattle.html_urls.specs.Bases.{behind_base, behind_byte}
use Rattle.html_urls.specs.declared.base.BehindBase.{BehindBase}
use Rattle.html_urls.proofs.Bases.GoesAs.{same_behind}
use Rattle.html_template.proofs.PageUrls.LaterMarkup.{base_told}

-- ---- what markup adds to a URL begins as the markup does, unless it begins with a `&`

record IsAmpersand (text : List ℕ) : Type 0 where
  rest : List ℕ
  is : text ≡ 38 ∷ rest

mapped : (f : List ℕ → List ℕ) → ((more : List ℕ) → IsAmpersand (f more)) → (found : Option (List ℕ)) (text : List ℕ) → option_map f found ≡ Some text → IsAmpersand text
mapped f begins found text is = grind (arith, nat_tests)

-- by what the byte behind the `&` is
chosen : (letter amp other again : Bool) (first second third last : Option (List ℕ)) (text : List ℕ) → (first ≡ Some text → IsAmpersand text) →
    (second ≡ Some text → IsAmpersand text) → (third ≡ Some text → IsAmpersand text) → (last ≡ Some text → IsAmpersand text) →
    (if letter then first else (if amp then second else (if other then None else (if again then third else last)))) ≡ Some text → IsAmpersand text
chosen letter amp other again first second third last text one two three four is = grind (arith, nat_tests)

begun_reference : (is_ended : Bool) (word bytes text : List ℕ) → url_text_from is_ended (Some word) bytes ≡ Some text → IsAmpersand text
begun_reference true word [] text is = let same : 38 ∷ word ≡ text = cc in subst IsAmpersand same (record { rest = word; is = refl })
begun_reference false word [] text is = absurd (cc)
begun_reference is_ended word (b ∷ bytes) text is =
    chosen (is_ascii_alphanumeric b) (b == 59 && bytes_eq word (codes "amp")) (b == 59 || goes_on word b) (b == 38) _ _ _ _ text
    (λ more. begun_reference is_ended (word ++ b ∷ []) bytes text more)
    (mapped (λ more. 38 ∷ more) (λ more. record { rest = more; is = refl }) (url_text_from is_ended None bytes) text)
    (mapped (λ more. 38 ∷ word ++ more) (λ more. record { rest = word ++ more; is = refl }) (url_text_from is_ended (Some []) bytes) text)
    (mapped (λ more. 38 ∷ word ++ b ∷ more) (λ more. record { rest = word ++ b ∷ more; is = refl }) (url_text_from is_ended None bytes) text)
    is

first_byte : (b : ℕ) (found : Option (List ℕ)) (text : List ℕ) → option_map (λ more. b ∷ more) found ≡ Some text → behind_base text ≡ behind_byte b
first_byte b None text is = absurd (cc)
first_byte b (Some more) text is = let same : b ∷ more ≡ text = cc in sym (ap behind_base same)

text_begins : (is_ended : Bool) (markup text : List ℕ) (behind : BehindBase) → url_text is_ended markup ≡ Some text → behind_base text ≡ Some behind →
    behind_base markup ≡ Some behind
text_begins is_ended [] text behind read is =
    let none : [] ≡ text = cc in
    let clash : None ≡ Some behind = ap behind_base none ∙ is in
    absurd (cc)
text_begins is_ended (b ∷ markup) text behind read is =
    elim (cases_Bool (b == 38)) [
      | inl ampersand ↦ let begins = begun_reference is_ended [] markup text (rw ampersand at read) in
          let clash : None ≡ Some behind = sym (ap behind_base begins.is) ∙ is in
          absurd (cc)
      | inr byte ↦ sym (first_byte b (url_text_from is_ended None markup) text (rw byte at read)) ∙ is
    ]

taken_begins : (n : ℕ) (markup : List ℕ) (behind : BehindBase) → behind_base (take n markup) ≡ Some behind → behind_base markup ≡ Some behind
taken_begins zero [] behind is = is
taken_begins (suc n) [] behind is = is
taken_begins zero (b ∷ markup) behind is = absurd (cc)
taken_begins (suc n) (b ∷ markup) behind is = is

-- ---- behind a base, and behind a whole URL

front_told : (p : SlotPlace) (behind : BehindBase) (markup : List ℕ) (opened : OpenUrl) → url_markup (Front p behind) markup ≡ Ok opened → behind_base markup ≡ Some behind
front_told p behind markup opened told =
    let n : ℕ = url_length false p markup in
    let ended : Bool = nat_lt n (length markup) in
    let front = base_told p behind ended (take n markup) opened told in
    taken_begins n markup behind (text_begins ended (take n markup) front.text behind front.adds.read (same_behind behind front.text front.goes))

link_told : (p : SlotPlace) (markup : List ℕ) (opened : OpenUrl) → behind_link p markup ≡ Ok opened → behind_base markup ≡ None
link_told p markup opened told = grind (arith, nat_tests)

-- ---- so a guess of what follows a slot is right where the markup that follows it is taken

whole_told : (found : PlacedSlot) (p : SlotPlace) (guess : Option BehindBase) (markup : List ℕ) (opened : OpenUrl) → found.url ≡ Whole p →
    url_markup (begun found (Whole p) guess).url markup ≡ Ok opened → behind_base markup ≡ guess
whole_told found p None markup opened is told = link_told p markup opened (sym (ap (λ u. url_markup u markup) is) ∙ told)
whole_told found p (Some behind) markup opened is told = front_told p behind markup opened told

begun_told : (found : PlacedSlot) (url : OpenUrl) (guess : Option BehindBase) (markup : List ℕ) (opened : OpenUrl) → found.url ≡ url →
    url_markup (begun found url guess).url markup ≡ Ok opened → begun found url (behind_base markup) ≡ begun found url guess
begun_told found Outside guess markup opened is told = refl
begun_told found (Within p part) guess markup opened is told = refl
begun_told found (Listed p part) guess markup opened is told = refl
begun_told found (Front p behind) guess markup opened is told = refl
begun_told found (Declaration p) guess markup opened is told = refl
begun_told found (Whole p) guess markup opened is told = ap (begun found (Whole p)) (whole_told found p guess markup opened is told)

pub guess_told : (guess markup : List ℕ) (found : PlacedSlot) (opened : OpenUrl) → url_markup (before guess found).url markup ≡ Ok opened →
    before markup found ≡ before guess found
guess_told guess markup found opened told = begun_told found found.url (behind_base guess) markup opened refl told
