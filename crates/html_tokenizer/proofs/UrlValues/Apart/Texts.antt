-- Bytes that are read as a text alone.
use Rattle.std.proofs.Common.{ℕ, ◌≡◌, true, false, List, [], ◌∷◌, ◌++◌, map, ap, ◌∙◌, subst, sym}
use Rattle.html_tokenizer.specs.declared.slot_place.SlotPlace.{SlotPlace}
use Rattle.html_tokenizer.specs.Tokenizer.Actions.{StringEnd, StringStart, read_byte}
use Rattle.html_tokenizer.specs.Tokenizer.States.{Tokenizer}
use Rattle.html_tokenizer.specs.Tokenizer.Tokenization.{actions_of, state_after}
use Rattle.html_tokenizer.specs.UrlValues.{is_of_urls, is_url, value_bytes}
use Rattle.html_tokenizer.proofs.Passing.{Passes}
use Rattle.html_tokenizer.proofs.UrlValues.Apart.Bytes.{KeepsUrl, StaysApart, keeps_url, stays_apart}
use Rattle.html_tokenizer.proofs.UrlValues.Apart.OneByte.{BeginsNone, literal_begins_none, text_begins_none, text_in_value, IsApart}
use Rattle.html_tokenizer.proofs.UrlValues.Places.{is_value_place}
use Rattle.html_tokenizer.proofs.UrlValues.Attributes.{is_open, url_of_urls}
use Rattle.html_tokenizer.proofs.UrlValues.Slots.Tame.{IsTame}

none_in_text : (p : SlotPlace) (t u : Tokenizer) (bytes text : List ℕ) → Passes t bytes (map (read_byte p) text) u → BeginsNone (actions_of t bytes)
none_in_text p t u bytes text passes = subst BeginsNone (sym passes.actions) (text_begins_none p text)

-- apart from URLs
pub text_apart : (p : SlotPlace) (t u : Tokenizer) (bytes text : List ℕ) → IsApart t → Passes t bytes (map (read_byte p) text) u →
    StaysApart t bytes u
text_apart p t u bytes text apart passes =
    subst (λ (x : Tokenizer). StaysApart t bytes x) passes.after (stays_apart t bytes apart (none_in_text p t u bytes text passes))

-- so is a string literal
pub literal_apart : (p : SlotPlace) (t u : Tokenizer) (bytes text : List ℕ) → IsApart t →
    Passes t bytes (StringStart ∷ (map (read_byte p) text ++ StringEnd ∷ [])) u → StaysApart t bytes u
literal_apart p t u bytes text apart passes =
    subst (λ (x : Tokenizer). StaysApart t bytes x) passes.after
    (stays_apart t bytes apart (subst BeginsNone (sym passes.actions) (literal_begins_none p text)))

-- in a URL that is the value, and is open before and after them
pub text_in_url : (p : SlotPlace) (t u : Tokenizer) (bytes text : List ℕ) → is_value_place p ≡ true → IsTame t → is_open false t.attribute ≡ true →
    is_url u.attribute ≡ true → Passes t bytes (map (read_byte p) text) u → KeepsUrl t bytes text
text_in_url p t u bytes text place tame url still passes =
    let added : value_bytes (actions_of t bytes) ≡ text = ap value_bytes passes.actions ∙ text_in_value p text place in
    let there : is_of_urls (state_after t bytes).attribute ≡ true =
    subst (λ (x : Tokenizer). is_of_urls x.attribute ≡ true) (sym passes.after) (url_of_urls u.attribute still) in
    subst (λ (x : List ℕ). KeepsUrl t bytes x) added (keeps_url t bytes url tame (none_in_text p t u bytes text passes) there)
