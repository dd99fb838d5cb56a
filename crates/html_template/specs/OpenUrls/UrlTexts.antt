-- What was read of the markup of a URL, byte by byte.
use Rattle.std.specs.Prelude.{◌≡◌, ℕ, Bool, true, false, List, ◌∷◌, ◌++◌, Option, Some, None, length}
use Rattle.std.specs.Option.{option_map}
use Rattle.hesc_specs.specs.Text.Ascii.{ampersand}
use Rattle.html_tokenizer.specs.UrlValues.{url_text, url_text_from}

-- the text so far, and the markup that is left, are those of all markup: a `&` stands in the text, of which it is open what it is
pub record IsHeld (is_ended : Bool) (text word rest markup : List ℕ) (start : ℕ) : Type 0 where
  pub front : List ℕ
  pub parts : text ≡ front ++ ampersand ∷ word
  pub place : start ≡ length front
  pub read : url_text is_ended markup ≡ option_map (λ more. front ++ more) (url_text_from is_ended (Some word) rest)

-- or none
abbrev pub IsRead : Bool → Option ℕ → List ℕ → List ℕ → List ℕ → Type 0
IsRead is_ended None text rest markup = url_text is_ended markup ≡ option_map (λ more. text ++ more) (url_text_from is_ended None rest)
IsRead is_ended (Some start) text rest markup = (word : List ℕ) × IsHeld is_ended text word rest markup start

-- after one byte more, or where the markup is not taken
abbrev pub Takes : Bool → Option ℕ → List ℕ → ℕ → Option ℕ → List ℕ → Type 0
Takes true start text b new_start new_text =
    (is_ended : Bool) (rest markup : List ℕ) → IsRead is_ended start text (b ∷ rest) markup → IsRead is_ended new_start new_text rest markup
Takes false start text b new_start new_text =
    (is_ended : Bool) (rest markup : List ℕ) → IsRead is_ended start text (b ∷ rest) markup → url_text is_ended markup ≡ None
