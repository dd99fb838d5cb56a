-- A slot for a text, a string literal, JSON or a piece of a declaration, which stands in no URL.
use Rattle.std.proofs.Common.{ℕ, ◌≡◌, true, false, List, [], ◌∷◌, refl, ap, arith}
use Rattle.std.proofs.lemmas.Bool.Decides.{nat_tests}
use Rattle.std.specs.List.{AllByRecursion}
use Rattle.std.specs.Str.{IsUtf8}
use Rattle.html_template.specs.declared.open_url.OpenUrl.TheVariants.{Outside}
use Rattle.html_template.specs.declared.parts.SlotKind.{SlotKind}
use Rattle.html_template.specs.declared.parts.SlotKind.TheVariants as kind
use Rattle.html_template.specs.FilledUrls.{OpenValue, Value, open_at_slot, url_text, url_texts}
use Rattle.html_template.specs.PageUrls.{first_text, first_texts}
use Rattle.html_template.specs.Slots.{MayFill, handed, past_slot, suits, written}
use Rattle.html_template.specs.Templates.{Chunk, Fill, Slot, page}
use Rattle.html_tokenizer.specs.declared.slot_place.SlotPlace.{SlotPlace}
use Rattle.html_tokenizer.specs.Standing.{standing}
use Rattle.html_tokenizer.specs.Tokenizer.States.{Tokenizer}
use Rattle.html_tokenizer.specs.Tokenizer.Tokenization.{state_after}
use Rattle.html_tokenizer.specs.UrlValues.{is_of_urls, urls_from}
use Rattle.html_tokenizer.proofs.UrlValues.Appending.{urls_from-anew}
use Rattle.html_tokenizer.proofs.UrlValues.Apart.Bytes.{StaysApart}
use Rattle.html_tokenizer.proofs.UrlValues.Apart.OneByte.{IsApart}
use Rattle.html_tokenizer.proofs.UrlValues.Attributes.{no_url_of_none}
use Rattle.html_tokenizer.proofs.UrlValues.Names.{is_named}
use Rattle.html_tokenizer.proofs.UrlValues.Apart.Texts.{literal_apart, text_apart}
use Rattle.html_template.proofs.PageUrls.Filled.{HasLater, IsFilled}
use Rattle.html_template.proofs.PageUrls.Opening.{Goes, behind_bytes, no_url_open}
use Rattle.html_template.proofs.TemplateLaw.{slot_passes, style_in_declaration}

pub text_stands_apart : (p : SlotPlace) (t : Tokenizer) → suits kind.Text p (standing t) ≡ true → IsApart t
text_stands_apart p t suited = grind (arith, nat_tests)

pub literal_stands_apart : (p : SlotPlace) (t : Tokenizer) → suits kind.Literal p (standing t) ≡ true → IsApart t
literal_stands_apart p t suited = grind (arith, nat_tests)

pub json_stands_apart : (p : SlotPlace) (t : Tokenizer) → suits kind.Json p (standing t) ≡ true → IsApart t
json_stands_apart p t suited = grind (arith, nat_tests)

pub style_stands_apart : (p : SlotPlace) (t : Tokenizer) → suits kind.StyleValue p (standing t) ≡ true → IsApart t
style_stands_apart p t suited =
    let here = style_in_declaration p t.state t.content t.attribute suited in
    record { no_url = ap is_of_urls here.attribute_is; unnamed = ap is_named here.state_is }

-- the text of such a slot is in no URL
record IsApartKind (found : SlotKind) : Type 0 where
  first : (text : List ℕ) → first_text found text ≡ []
  none : (text : List ℕ) → url_text found text ≡ []
  opens : (held : OpenValue) → open_at_slot held found ≡ Value []

text_kind : IsApartKind kind.Text
text_kind = record { first = λ text. refl; none = λ text. refl; opens = λ held. refl }

literal_kind : IsApartKind kind.Literal
literal_kind = record { first = λ text. refl; none = λ text. refl; opens = λ held. refl }

json_kind : IsApartKind kind.Json
json_kind = record { first = λ text. refl; none = λ text. refl; opens = λ held. refl }

style_kind : IsApartKind kind.StyleValue
style_kind = record { first = λ text. refl; none = λ text. refl; opens = λ held. refl }

module _ {found : SlotKind} (apart_kind : IsApartKind found) (p : SlotPlace) (t next : Tokenizer) (value : List ℕ) (chunks : List Chunk)
    (suited : suits found p (standing t) ≡ true) (goes_to : past_slot p found t ≡ next) (no_url : is_of_urls next.attribute ≡ false)
    (passes : (text : List ℕ) → MayFill p found text → IsUtf8 text → StaysApart t (written p found text) next × (state_after t (written p found text) ≡ next)) where
  filled_apart : (later : HasLater next [] chunks) (texts : List (List ℕ)) → Fill (Slot p found ∷ chunks) texts → AllByRecursion IsUtf8 texts →
      IsFilled (urls_from t value (page (Slot p found ∷ chunks) texts)) (first_texts (Slot p found ∷ chunks) texts) later.urls (url_texts (Slot p found ∷ chunks) texts)
  filled_apart later texts full utf8 = grind (arith, nat_tests, behind_bytes, no_url_of_none, urls_from-anew)

  goes_apart : Goes Outside next [] chunks → HasLater t value (Slot p found ∷ chunks)
  goes_apart goes =
      let later = goes [] (no_url_open next [] no_url) in
      record { urls = later.urls; told = rw (suited, goes_to, apart_kind.opens (Value value)) later.told; filled = filled_apart later }

pub text_goes : (p : SlotPlace) (t : Tokenizer) (value : List ℕ) (chunks : List Chunk) → suits kind.Text p (standing t) ≡ true →
    Goes Outside (past_slot p kind.Text t) [] chunks → HasLater t value (Slot p kind.Text ∷ chunks)
text_goes p t value chunks suited =
    let next : Tokenizer = past_slot p kind.Text t in
    let apart = text_stands_apart p t suited in
    goes_apart text_kind p t next value chunks suited refl apart.no_url
    (λ text full utf8.
    let passes = slot_passes p kind.Text t.state t.content t.attribute text suited full utf8 in
    (text_apart p t next (written p kind.Text text) (handed p kind.Text text) apart passes, passes.after))

pub literal_goes : (p : SlotPlace) (t : Tokenizer) (value : List ℕ) (chunks : List Chunk) → suits kind.Literal p (standing t) ≡ true →
    Goes Outside t [] chunks → HasLater t value (Slot p kind.Literal ∷ chunks)
literal_goes p t value chunks suited =
    let apart = literal_stands_apart p t suited in
    goes_apart literal_kind p t t value chunks suited refl apart.no_url
    (λ text full utf8.
    let passes = slot_passes p kind.Literal t.state t.content t.attribute text suited full utf8 in
    (literal_apart p t t (written p kind.Literal text) (handed p kind.Literal text) apart passes, passes.after))

pub json_goes : (p : SlotPlace) (t : Tokenizer) (value : List ℕ) (chunks : List Chunk) → suits kind.Json p (standing t) ≡ true →
    Goes Outside (past_slot p kind.Json t) [] chunks → HasLater t value (Slot p kind.Json ∷ chunks)
json_goes p t value chunks suited =
    let next : Tokenizer = past_slot p kind.Json t in
    let apart = json_stands_apart p t suited in
    goes_apart json_kind p t next value chunks suited refl apart.no_url
    (λ text full utf8.
    let passes = slot_passes p kind.Json t.state t.content t.attribute text suited full utf8 in
    (text_apart p t next (written p kind.Json text) (handed p kind.Json text) apart passes, passes.after))

pub style_goes : (p : SlotPlace) (t : Tokenizer) (value : List ℕ) (chunks : List Chunk) → suits kind.StyleValue p (standing t) ≡ true →
    Goes Outside (past_slot p kind.StyleValue t) [] chunks → HasLater t value (Slot p kind.StyleValue ∷ chunks)
style_goes p t value chunks suited =
    let next : Tokenizer = past_slot p kind.StyleValue t in
    let apart = style_stands_apart p t suited in
    goes_apart style_kind p t next value chunks suited refl apart.no_url
    (λ text full utf8.
    let passes = slot_passes p kind.StyleValue t.state t.content t.attribute text suited full utf8 in
    (text_apart p t next (written p kind.StyleValue text) (handed p kind.StyleValue text) apart passes, passes.after))
