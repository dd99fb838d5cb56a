-- Own bases: the head of the URL of one is that of the page.
use Rattle.std.proofs.Common.{◌≡◌, ℕ, ◌||◌, ◌==◌, true, false, List, [], length, Option, Some, Ok, All, sym, ap, ◌∙◌, arith}
use Rattle.std.proofs.lemmas.Bool.Decides.{nat_tests}
use Rattle.std.proofs.lemmas.Bool.{and_parts, cond-false}
use Rattle.std.proofs.lemmas.List.Elements.{All-nil}
use Rattle.url.specs.Head.{head_only}
use Rattle.url.specs.Input.{split_once}
use Rattle.url.specs.Parser.{parse_url}
use Rattle.url.specs.Parts.{Parts}
use Rattle.html_urls.specs.declared.base.BehindBase.{BehindBase}
use Rattle.html_urls.specs.Bases.{IsWebPage, is_base, is_own_base}
use Rattle.html_urls.specs.Heads.{head_of}
use Rattle.html_urls.specs.Inputs.{IsNot, IsVisible}
use Rattle.html_urls.specs.OpenParts.{is_rooted}
use Rattle.html_urls.specs.Slots.{is_plain_byte}
use Rattle.html_urls.proofs.Bases.Ends.{base_is}
use Rattle.html_urls.proofs.Bases.Headings.{nothing_head, parse_is, web_base}
use Rattle.html_urls.proofs.Bases.OwnPaths.{rooted_text}
use Rattle.html_urls.proofs.OpenEscapes.{plain_bytes}
use Rattle.html_urls.proofs.Paths.Opening.{from_base}

pub own_is_base : (behind : BehindBase) (text : List ℕ) → is_own_base behind text ≡ true → is_base behind text ≡ true
own_is_base behind text is = (and_parts (is_base behind text) (length text == 0 || is_rooted text) is).0

-- the empty text is read as the page
empty_head : (page : Option Parts) → IsWebPage page → head_of (parse_url page []) ≡ head_of (from_base page)
unfolding split_once
empty_head page web =
    ap head_of (parse_is page [] [] (All-nil IsVisible) (All-nil (IsNot 35)) (All-nil (IsNot 63)))
    ∙ nothing_head page web _ _

own_text : (page : Option Parts) (text : List ℕ) → IsWebPage page → All (λ b. is_plain_byte b ≡ true) text → (length text == 0 || is_rooted text) ≡ true →
    head_of (parse_url page text) ≡ head_of (from_base page)
own_text page text web plain own = grind (arith, nat_tests, empty_head, rooted_text, web_base)

-- the head of the base alone
own_head : (page : Option Parts) (behind : BehindBase) (text : List ℕ) → IsWebPage page → is_own_base behind text ≡ true →
    head_of (parse_url page text) ≡ head_of (from_base page)
own_head page behind text web is =
    let both = and_parts (is_base behind text) (length text == 0 || is_rooted text) is in
    own_text page text web (plain_bytes text false (base_is behind text both.0).plain) both.1

pub page_head : (behind : BehindBase) (text : List ℕ) (page : Parts) → is_own_base behind text ≡ true → IsWebPage (Some page) →
    head_of (parse_url (Some page) text) ≡ Ok (head_only page)
page_head behind text page is web = own_head (Some page) behind text web is ∙ ap head_of (cond-false _ _ _ web.1)

pub own_alike : (behind before : BehindBase) (text other : List ℕ) (page : Option Parts) → is_own_base behind text ≡ true → is_own_base before other ≡ true →
    IsWebPage page → head_of (parse_url page text) ≡ head_of (parse_url page other)
own_alike behind before text other page is also web = own_head page behind text web is ∙ sym (own_head page before other web also)
