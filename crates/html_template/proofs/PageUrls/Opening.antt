-- A place of a template: where the tokenizer is, what was read of the URL that is open, and what is proved from there on.
use Rattle.std.proofs.Common.{ℕ, ◌≡◌, Bool, List, [], ◌++◌, sym, subst, true, false, arith}
use Rattle.std.proofs.lemmas.Bool.Decides.{nat_tests}
use Rattle.html_template.specs.declared.open_url.OpenUrl.{OpenUrl}
use Rattle.html_template.specs.declared.open_url.OpenUrl.TheVariants.{Outside, Within, Listed, Whole, Front, Declaration}
use Rattle.html_template.specs.OpenUrls.{within}
use Rattle.html_template.specs.Templates.{Chunk}
use Rattle.html_tokenizer.specs.declared.slot_place.SlotPlace.{SlotPlace}
use Rattle.html_tokenizer.specs.Tokenizer.States.{In, Tokenizer}
use Rattle.html_tokenizer.specs.Tokenizer.Tokenization.{state_after}
use Rattle.html_tokenizer.specs.UrlValues.{is_of_urls, open_url, urls_from}
use Rattle.html_tokenizer.proofs.UrlValues.Appending.{urls_from-append}
use Rattle.html_tokenizer.proofs.UrlValues.Attributes.{is_open, open_url_is, url_of_urls}
use Rattle.html_tokenizer.proofs.UrlValues.Bytes.{may_hold_url}
use Rattle.html_tokenizer.proofs.UrlValues.Places.{is_value_place}
use Rattle.html_tokenizer.proofs.UrlValues.Slots.Tame.{IsFresh, IsTame, fresh_after}
use Rattle.html_urls.specs.declared.open_part.OpenPart.{OpenPart}
use Rattle.html_template.proofs.PageUrls.Filled.{EndsBehind, GoesBehind, GoesOn, HasLater}

-- the URL that is open, if one is, was read in this markup
pub record FromMarkup (t : Tokenizer) (markup value : List ℕ) : Type 0 where
  pub start : Tokenizer
  pub tame : IsTame start
  pub before : List ℕ
  pub fresh : IsFresh start before
  pub after : t ≡ state_after start markup
  pub is : value ≡ open_url start before markup

-- behind a slot in a URL, or in one of a list, the tokenizer is in it
pub record StandsAt (listed : Bool) (p : SlotPlace) (t : Tokenizer) : Type 0 where
  pub state_is : t.state ≡ In p
  pub attribute_is : is_open listed t.attribute ≡ true

-- by what is open of a URL with slots
abbrev pub Goes : OpenUrl → Tokenizer → List ℕ → List Chunk → Type 0
Goes Outside t markup chunks = (value : List ℕ) → FromMarkup t markup value → HasLater t value chunks
Goes (Within p part) t markup chunks = StandsAt false p t → GoesOn part t chunks
Goes (Listed p part) t markup chunks = StandsAt true p t → GoesOn part t chunks
Goes (Whole p) t markup chunks = StandsAt false p t → EndsBehind t [] chunks
Goes (Front p behind) t markup chunks = StandsAt false p t → GoesBehind behind t chunks
Goes (Declaration p) t markup chunks = (value : List ℕ) → FromMarkup t markup value → HasLater t value chunks

-- in a part of a URL, by whether it is one of a list
pub goes_in_part : (listed : Bool) (p : SlotPlace) (part : OpenPart) (t : Tokenizer) (markup : List ℕ) (chunks : List Chunk) → Goes (within listed p part) t markup chunks →
    StandsAt listed p t → GoesOn part t chunks
goes_in_part true p part t markup chunks goes = goes
goes_in_part false p part t markup chunks goes = goes

-- what is open was told
pub goes_told : (url : OpenUrl) {told : OpenUrl} (t : Tokenizer) (markup : List ℕ) (chunks : List Chunk) → url ≡ told → Goes told t markup chunks →
    Goes url t markup chunks
goes_told url t markup chunks is goes = subst (λ (x : OpenUrl). Goes x t markup chunks) (sym is) goes

-- the place of a URL that is open is one in a value
pub value_place : (listed : Bool) (p : SlotPlace) (t : Tokenizer) → IsTame t → StandsAt listed p t → is_value_place p ≡ true
value_place listed p t tame stands =
    subst (λ s. may_hold_url s ≡ true) stands.state_is (tame (url_of_urls t.attribute (open_url_is listed t.attribute stands.attribute_is)))

pub no_url_open : (t : Tokenizer) (value : List ℕ) → is_of_urls t.attribute ≡ false → FromMarkup t [] value
no_url_open t value none = grind (arith, nat_tests)

pub fresh_here : {t : Tokenizer} {markup value : List ℕ} → FromMarkup t markup value → IsFresh t value
fresh_here from = grind (arith, nat_tests, fresh_after)

-- bytes in which no URL ends, and others
pub behind_bytes : (t : Tokenizer) {u : Tokenizer} {found : List ℕ} (value bytes rest : List ℕ) → urls_from t value bytes ≡ [] → state_after t bytes ≡ u →
    open_url t value bytes ≡ found → urls_from t value (bytes ++ rest) ≡ urls_from u found rest
behind_bytes t value bytes rest none after is = grind (arith, nat_tests, urls_from-append)
