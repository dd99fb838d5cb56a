-- A string decoder, and so that of a class, never lengthens a text, and leaves nothing of an empty text alone.
use Rattle.std.proofs.Common.{◌≡◌, ℕ, zero, suc, ◌+◌, ◌≤◌, Bool, false, List, [], ◌∷◌, ◌==◌, Option, Some, None, length, encode_utf8, refl, ap, arith, length-append, inl, inr, ne_eqb}
use Rattle.std.proofs.lemmas.Bool.Decides.{nat_tests}
use Rattle.std.proofs.lemmas.Bool.{cases_eq}
use Rattle.std.proofs.lemmas.Str.{length-encode, len_utf8_bounds}
use Rattle.hesc_specs.specs.Text.Ascii.{less_than, backslash}
use Rattle.hesc_specs.specs.Text.Classes.{string_class}
use Rattle.hesc_specs.specs.Text.Escaped.{by_class, unescaped}
use Rattle.hesc_specs.specs.Strings.Tokens.{Escape, escape_at, valued, string_decoding, string_decoding_after}
use Rattle.hesc_specs.specs.declared.classes.Class.{Class}
use Rattle.hesc_specs.specs.declared.elements.Element.{Element}
use Rattle.hesc_specs.specs.declared.quotes.Quotes.{Quotes}
use Rattle.hesc_specs.proofs.Strings.EscapeEnds.{EndsWithin, escape-ends}

module _ (element : Element) (quotes : Quotes) where
  -- what is read after the first byte of a token, where so many of its bytes are still to come and all of them are there
  abbrev Fits : List ℕ → (ℕ → List ℕ) → Type 0
  Fits bytes go_on = (more : ℕ) → more ≤ length bytes → length (go_on more) + more ≤ length bytes

  -- one token more, by whether it is an escape
  fits-token : (after_less : Bool) (b : ℕ) (bytes : List ℕ) (go_on : ℕ → List ℕ) (token : Escape) → escape_at element quotes after_less b bytes ≡ token → Fits bytes go_on
      → length (valued b token go_on) ≤ length bytes + 1
  fits-token after_less b bytes go_on None is fits = omega (arith, fits 0 (omega arith))
  fits-token after_less b bytes go_on (Some e) is fits = elim (cases_eq b backslash) [
    | inl same ↦
        let ends : EndsWithin bytes e.0 e.1 = escape-ends element quotes after_less bytes e.0 e.1 (rw same at is) in
        omega (arith, length-append (encode_utf8 e.1) (go_on e.0), fits e.0 ends.within, ends.short)
    | inr other ↦ let none : None ≡ Some e = rw (ne_eqb b backslash other) at is in cc
  ]

  shorter-after : (bytes : List ℕ) (after_less : Bool) → Fits bytes (λ more. string_decoding_after element quotes more after_less bytes)
  shorter-after [] after_less zero within = omega arith
  shorter-after [] after_less (suc more) within = omega arith
  shorter-after (b ∷ bytes) after_less (suc more) within = omega (arith, shorter-after bytes (b == less_than) more (omega arith))
  shorter-after (b ∷ bytes) after_less zero within =
      omega (arith, fits-token after_less b bytes (λ more. string_decoding_after element quotes more (b == less_than) bytes) (escape_at element quotes after_less b bytes) refl (shorter-after bytes (b == less_than)))

  pub string_decoding-shorter : (text : List ℕ) → length (string_decoding element quotes text) ≤ length text
  string_decoding-shorter text = omega (arith, shorter-after text false 0 (omega arith))

  -- the value of a token has a byte
  some-value : (b : ℕ) (token : Escape) (go_on : ℕ → List ℕ) → valued b token go_on ≡ [] → ⊥
  some-value b None go_on is = cc
  some-value b (Some e) go_on is =
      omega (arith, ap length is, length-append (encode_utf8 e.1) (go_on e.0), length-encode e.1, (len_utf8_bounds e.1).0)

  pub string_decoding-empty : (text : List ℕ) → string_decoding element quotes text ≡ [] → text ≡ []
  string_decoding-empty [] is = refl
  string_decoding-empty (b ∷ text) is = absurd (some-value b (escape_at element quotes false b text) (λ more. string_decoding_after element quotes more (b == less_than) text) is)

by_class-shorter : (string : Option (Element × Quotes)) (text : List ℕ) → length (by_class string (λ text. text) string_decoding text) ≤ length text
by_class-shorter string text = grind (arith, nat_tests, string_decoding-shorter)

by_class-empty : (string : Option (Element × Quotes)) (text : List ℕ) → by_class string (λ text. text) string_decoding text ≡ [] → text ≡ []
by_class-empty string text is = grind (arith, nat_tests, string_decoding-empty)

pub unescaped-shorter : (class : Class) (text : List ℕ) → length (unescaped class text) ≤ length text
unescaped-shorter class text = by_class-shorter (string_class class) text

pub unescaped-empty : (class : Class) (text : List ℕ) → unescaped class text ≡ [] → text ≡ []
unescaped-empty class text is = by_class-empty (string_class class) text is
