-- Bytes at which no attribute begins: no URL opens in them, and one that is open before and after them does not end in between.
use Rattle.std.proofs.Common.{ℕ, ◌≡◌, true, false, List, [], ◌∷◌, ◌++◌, refl, ap, ◌∙◌, sym, ⊎_elim, append_assoc, append-nil}
use Rattle.std.proofs.lemmas.Bool.{cases_Bool, true≢false}
use Rattle.html_tokenizer.specs.Tokenizer.Actions.{Action}
use Rattle.html_tokenizer.specs.Tokenizer.States.{Tokenizer}
use Rattle.html_tokenizer.specs.Tokenizer.Tokenization.{actions_of, consume, state_after}
use Rattle.html_tokenizer.specs.UrlValues.{is_of_urls, is_url, open_url, urls_from, value_bytes}
use Rattle.html_tokenizer.proofs.UrlValues.Apart.OneByte.{BeginsNone, neither_begins, value_bytes-append, IsApart, apart_at_end, apart_next}
use Rattle.html_tokenizer.proofs.UrlValues.Attributes.{is_open, no_url_of_none, open_is_listed, open_url_is, url_of_urls, whole_open}
use Rattle.html_tokenizer.proofs.UrlValues.Bytes.{class_next, stays_open}
use Rattle.html_tokenizer.proofs.UrlValues.Slots.Tame.{IsTame, tame_next}

-- no URL opens or ends in the bytes, which lead to that state
pub record StaysApart (t : Tokenizer) (bytes : List ℕ) (u : Tokenizer) : Type 0 where
  pub apart : IsApart u
  pub none_ends : (value : List ℕ) → urls_from t value bytes ≡ []

pub stays_apart : (t : Tokenizer) (bytes : List ℕ) → IsApart t → BeginsNone (actions_of t bytes) → StaysApart t bytes (state_after t bytes)
stays_apart t [] apart none = record { apart = apart; none_ends = λ value. refl }
stays_apart t (b ∷ bytes) apart none =
    let parts = neither_begins (consume t b).actions (actions_of (consume t b).next bytes) none in
    let rest = stays_apart (consume t b).next bytes (apart_next t b apart parts.0) parts.1 in
    record { apart = rest.apart; none_ends = λ value. rw (no_url_of_none t.attribute apart.no_url) (rest.none_ends (value_bytes (consume t b).actions)) }

-- the URL that is open does not end in the bytes, which add others to it
pub record KeepsUrl (t : Tokenizer) (bytes added : List ℕ) : Type 0 where
  pub none_ends : (value : List ℕ) → urls_from t value bytes ≡ []
  pub value : (before : List ℕ) → open_url t before bytes ≡ before ++ added

byte_keeps_url : (t : Tokenizer) (b : ℕ) (bytes : List ℕ) → is_url t.attribute ≡ true → is_url (consume t b).next.attribute ≡ true →
    KeepsUrl (consume t b).next bytes (value_bytes (actions_of (consume t b).next bytes)) → KeepsUrl t (b ∷ bytes) (value_bytes (actions_of t (b ∷ bytes)))
byte_keeps_url t b bytes here there rest =
    let first : List Action = (consume t b).actions in
    let others : List Action = actions_of (consume t b).next bytes in
    record {
      none_ends = λ value. rw (here, there) (rest.none_ends (value ++ value_bytes first));
      value = λ before.
          rw here (rest.value (before ++ value_bytes first)
          ∙ append_assoc before (value_bytes first) (value_bytes others)
          ∙ ap (λ more. before ++ more) (sym (value_bytes-append first others)));
    }

pub keeps_url : (t : Tokenizer) (bytes : List ℕ) → is_open false t.attribute ≡ true → IsTame t → BeginsNone (actions_of t bytes) →
    is_of_urls (state_after t bytes).attribute ≡ true → KeepsUrl t bytes (value_bytes (actions_of t bytes))
keeps_url t [] url_open tame none still = record { none_ends = λ value. refl; value = λ before. sym (append-nil before) }
keeps_url t (b ∷ bytes) url_open tame none still =
    let parts = neither_begins (consume t b).actions (actions_of (consume t b).next bytes) none in
    let url : is_url t.attribute ≡ true = open_url_is false t.attribute url_open in
    let of : is_of_urls t.attribute ≡ true = url_of_urls t.attribute url in
    ⊎_elim
    (λ (there : is_of_urls (consume t b).next.attribute ≡ true).
    let class = class_next (stays_open t b of (tame of) there) in
    let whole : is_open false (consume t b).next.attribute ≡ true =
    whole_open (consume t b).next.attribute there (class.same ∙ open_is_listed false t.attribute url_open) in
    byte_keeps_url t b bytes url (open_url_is false (consume t b).next.attribute whole)
    (keeps_url (consume t b).next bytes whole (tame_next t b tame) parts.1 still))
    (λ (ends : is_of_urls (consume t b).next.attribute ≡ false).
    let rest = stays_apart (consume t b).next bytes (apart_at_end t b of tame ends) parts.1 in
    absurd (true≢false (sym still ∙ rest.apart.no_url)))
    (cases_Bool (is_of_urls (consume t b).next.attribute))
