-- A text of bytes of a style's value stays in the value of a declaration, and is read as it stands.
use Rattle.std.proofs.Common.{ℕ, ◌≡◌, Bool, true, false, List, [], ◌∷◌, ◌||◌, ◌==◌, map, ap, ◌∙◌, refl, sym, ⊎_elim}
use Rattle.std.specs.List.{list_all}
use Rattle.std.proofs.lemmas.Bool.{and_parts, cases_Bool, eqb-true, true≢false}
use Rattle.hesc_specs.specs.Text.Ascii.{ampersand, double_quote, single_quote}
use Rattle.html_tokenizer.specs.Declarations.{bang, is_style_byte}
use Rattle.html_tokenizer.specs.declared.elements.Content.{Content}
use Rattle.html_tokenizer.specs.declared.slot_place.SlotPlace.{SlotPlace}
use Rattle.html_tokenizer.specs.declared.slot_place.SlotPlace.TheVariants.{DoubleQuoted, SingleQuoted}
use Rattle.html_tokenizer.specs.declared.states.StylePart.{StylePart}
use Rattle.html_tokenizer.specs.declared.states.StylePart.TheVariants.{Value}
use Rattle.html_tokenizer.specs.Tokenizer.Actions.{read_byte}
use Rattle.html_tokenizer.specs.Tokenizer.Attributes.{value_byte_read}
use Rattle.html_tokenizer.specs.Tokenizer.Attributes.StyleParts.{declarations_read}
use Rattle.html_tokenizer.specs.Tokenizer.States.{Declarations, In, at_value}
use Rattle.html_tokenizer.specs.Tokenizer.Stretches.{leaves_value}
use Rattle.html_tokenizer.specs.Tokenizer.Tokenization.{consume}
use Rattle.html_tokenizer.specs.Tokenizer.Transitions.{Transition}
use Rattle.html_tokenizer.proofs.Stretches.{byte_kept, value_consumed, value_kept}
use Rattle.html_tokenizer.proofs.UrlValues.Places.{is_in_quotes}
use Rattle.html_tokenizer.proofs.Passing.{Passes, passes_none, passes_byte}

pub style_byte_stays : (b : ℕ) → is_style_byte b ≡ true → value_byte_read (Declarations Value) b ≡ Declarations Value
style_byte_stays b is = rw is refl

abbrev goes_on : ℕ → Bool
goes_on b = is_style_byte b || b == bang

apart : (b c : ℕ) → goes_on b ≡ true → goes_on c ≡ false → (b == c) ≡ false
apart b c is not =
    ⊎_elim
    (λ (same : (b == c) ≡ true). absurd (true≢false (sym is ∙ ap goes_on (eqb-true b c same) ∙ not)))
    (λ (other : (b == c) ≡ false). other)
    (cases_Bool (b == c))

-- a byte that goes on with the value, or a `!`, does not end the attribute's
goes_remains : (p : SlotPlace) (b : ℕ) → is_in_quotes p ≡ true → goes_on b ≡ true → leaves_value p b ≡ false
goes_remains DoubleQuoted b quoted is = rw (apart b double_quote is refl, apart b ampersand is refl) refl
goes_remains SingleQuoted b quoted is = rw (apart b single_quote is refl, apart b ampersand is refl) refl
goes_remains other b quoted is = absurd (true≢false (sym quoted))

style_remains : (p : SlotPlace) (b : ℕ) → is_in_quotes p ≡ true → is_style_byte b ≡ true → leaves_value p b ≡ false
style_remains p b quoted is = goes_remains p b quoted (rw is refl)

pub style_text_stays : (p : SlotPlace) (content : Content) (text : List ℕ) → is_in_quotes p ≡ true → list_all is_style_byte text ≡ true →
    Passes (at_value (In p) content (Declarations Value)) text (map (read_byte p) text) (at_value (In p) content (Declarations Value))
style_text_stays p content [] quoted all = passes_none
style_text_stays p content (b ∷ text) quoted all =
    let parts = and_parts (is_style_byte b) (list_all is_style_byte text) all in
    passes_byte (byte_kept p content (Declarations Value) b (style_byte_stays b parts.0) (style_remains p b quoted parts.0) refl)
    (style_text_stays p content text quoted parts.1)

-- a byte that goes on with the value, or a `!`, leads to the next part of the declaration
pub style_byte_read : (p : SlotPlace) (content : Content) (part : StylePart) (b : ℕ) → is_in_quotes p ≡ true → (is_style_byte b || b == bang) ≡ true →
    (consume (at_value (In p) content (Declarations part)) b).next ≡ at_value (In p) content (Declarations (declarations_read part b))
style_byte_read p content part b quoted is =
    ap (λ (x : Transition). x.next)
    (value_consumed p content (Declarations part) b ∙ value_kept p content (Declarations part) b (goes_remains p b quoted is) refl)
