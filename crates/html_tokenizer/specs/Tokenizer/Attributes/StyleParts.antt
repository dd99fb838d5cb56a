-- Where in a declaration the value of a `style` attribute is.
-- CSS Syntax Module Level 3, 5.4.5 Consume a list of declarations, 5.4.6 Consume a declaration. What may begin a token of another kind than
-- those of a plain declaration is not looked at, and nor is what stands behind it.
use Rattle.std.specs.Prelude.{ℕ, List, [], ◌∷◌, ◌||◌, ◌==◌, if◌then◌else◌}
use Rattle.hesc_specs.specs.Text.Ascii.{semicolon}
use Rattle.html_tokenizer.specs.Declarations.{bang, colon, is_blank, is_style_byte, is_word_byte}
use Rattle.html_tokenizer.specs.declared.states.StylePart.{StylePart}
use Rattle.html_tokenizer.specs.declared.states.StylePart.TheVariants.{BeforeName, Name, AfterName, Value, Important, Opaque}

-- behind a name, up to the `:`
abbrev pub after_name_read : ℕ → StylePart
after_name_read b =
    if b == colon then Value
    else (if is_blank b then AfterName
    else Opaque)

-- a `;` ends a declaration, and another byte makes the rest of the value opaque
abbrev pub declaration_end : ℕ → StylePart
declaration_end b = if b == semicolon then BeforeName else Opaque

-- after one byte more of the value
abbrev pub declarations_read : StylePart → ℕ → StylePart
declarations_read BeforeName b =
    if is_word_byte b then Name
    else (if is_blank b then BeforeName
    else declaration_end b)
declarations_read Name b = if is_word_byte b then Name else after_name_read b
declarations_read AfterName b = after_name_read b
declarations_read Value b =
    if is_style_byte b then Value
    else (if b == bang then Important
    else declaration_end b)
declarations_read Important b = if is_word_byte b || is_blank b then Important else declaration_end b
declarations_read Opaque b = Opaque

-- after bytes more
abbrev pub part_after : StylePart → List ℕ → StylePart
part_after part [] = part
part_after part (b ∷ bytes) = part_after (declarations_read part b) bytes
