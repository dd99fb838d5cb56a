-- Own paths: the head of their URLs is that of the page.
use Rattle.std.proofs.Common.{◌≡◌, ℕ, true, List, [], ◌∷◌, Option, Some, Ok, All, refl, sym, ap, ◌∙◌, arith}
use Rattle.std.proofs.lemmas.Bool.Decides.{nat_tests}
use Rattle.std.proofs.lemmas.Bool.{cond-false}
use Rattle.std.proofs.lemmas.List.Elements.{All-nil}
use Rattle.url.specs.Head.{head_only}
use Rattle.url.specs.Input.{split_once}
use Rattle.url.specs.Parser.{parse_url}
use Rattle.url.specs.Parts.{Parts}
use Rattle.html_urls.specs.Bases.{IsWebPage}
use Rattle.html_urls.specs.Heads.{head_of}
use Rattle.html_urls.specs.Hosts.{IsWebBase}
use Rattle.html_urls.specs.Inputs.{IsNot}
use Rattle.html_urls.specs.OpenParts.{is_rooted}
use Rattle.html_urls.specs.OwnPaths.{is_own_path}
use Rattle.html_urls.specs.Slots.{FillUrl, Markup, is_plain, is_plain_byte}
use Rattle.html_urls.proofs.Bases.Headings.{path_begins, parse_is, path_bytes, plain_no_backslash, rooted_head}
use Rattle.html_urls.proofs.Places.FixedHosts.{Rooted, root, rooted_is}
use Rattle.html_urls.proofs.Filled.FirstSlot.{plain_visible}
use Rattle.html_urls.proofs.OpenEscapes.{plain_bytes}
use Rattle.html_urls.proofs.Paths.Opening.{from_base}
use Rattle.html_urls.proofs.Shapes.Encoded.Splits.{all_halves}

-- the path of a text that is rooted is rooted
path_rooted : (text : List ℕ) → Rooted text → Rooted (path_bytes text)
unfolding split_once
path_rooted _ (root rest other) = root (path_bytes rest) (path_begins rest other)

record IsOwn (text : List ℕ) : Type 0 where
  plain : is_plain text true ≡ true
  rooted : is_rooted text ≡ true

own_is : (text : List ℕ) → is_own_path text ≡ true → IsOwn text
own_is text is = grind (arith, nat_tests)

-- the head of the URL of a plain text that is rooted
pub rooted_text : (base : Option Parts) (text : List ℕ) → IsWebBase base → All (λ b. is_plain_byte b ≡ true) text → is_rooted text ≡ true →
    head_of (parse_url base text) ≡ head_of (from_base base)
rooted_text base text web plain rooted =
    let hash = split_once 35 text in
    let no_backslash = (all_halves (IsNot 92) 63 hash.0 (all_halves (IsNot 92) 35 text (plain_no_backslash text plain)).0).0 in
    ap head_of (parse_is base [] text (plain_visible text plain) (All-nil (IsNot 35)) (All-nil (IsNot 63)))
    ∙ rooted_head base (path_bytes text) web no_backslash (path_rooted text (rooted_is text rooted)) (split_once 63 hash.0).1 hash.1

own_head : (base : Option Parts) (text : List ℕ) → IsWebBase base → is_own_path text ≡ true → head_of (parse_url base text) ≡ head_of (from_base base)
own_head base text web is =
    let own = own_is text is in
    rooted_text base text web (plain_bytes text true own.plain) own.rooted

pub page_head : (page : Parts) (text : List ℕ) → IsWebPage (Some page) → is_own_path text ≡ true → head_of (parse_url (Some page) text) ≡ Ok (head_only page)
page_head page text web is = own_head (Some page) text web.0 is ∙ ap head_of (cond-false _ _ _ web.1)

pub own_alike : (base : Option Parts) (text other : List ℕ) → IsWebBase base → is_own_path text ≡ true → is_own_path other ≡ true →
    head_of (parse_url base text) ≡ head_of (parse_url base other)
own_alike base text other web is also = own_head base text web is ∙ sym (own_head base other web also)

-- no slot stands in one
pub one_part : (text : List ℕ) → is_own_path text ≡ true → FillUrl (Markup text ∷ []) []
one_part text is = rw (own_is text is).plain (tt, refl)
