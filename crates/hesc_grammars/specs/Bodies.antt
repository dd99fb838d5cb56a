-- What begins at a position of a style's and of a script's body.
-- HTML Standard, 13.2.5.3 RAWTEXT state and 13.2.5.12 to 13.2.5.14, which it leads to, and 13.2.5.4
-- Script data state and 13.2.5.15 to 13.2.5.31, with one case for each position and mode.
use Rattle.std.specs.Prelude.{ℕ, Bool, false, List, [], ◌∷◌, if◌then◌else◌, codes}
use Rattle.hesc_specs.specs.Text.Words.{begins}
use Rattle.hesc_specs.specs.declared.elements.Element.TheVariants.{Script, Style}
use Rattle.hesc_grammars.specs.declared.step.Mode.{Mode}
use Rattle.hesc_grammars.specs.declared.step.Mode.TheVariants.{Plain, Escaped, DoubleEscaped}
use Rattle.hesc_grammars.specs.declared.step.Step.{Step}
use Rattle.hesc_grammars.specs.declared.step.Step.TheVariants.{Close, Byte, Nothing}
use Rattle.hesc_grammars.specs.Words.{is_start_tag, is_end_tag}

-- a style's body: its end tag is the end
unfoldable pub style_body_step : Mode → List ℕ → Step
style_body_step mode [] = Nothing
style_body_step mode (b ∷ bytes) = if is_end_tag Style (b ∷ bytes) then Close else Byte 0 b Plain

-- the mode after a byte of a script's body, by what begins at it
abbrev pub mode_after : Mode → List ℕ → Mode
mode_after Escaped bytes =
    if is_start_tag Script bytes then DoubleEscaped
    else (if begins (codes "-->") bytes then Plain
    else Escaped)
mode_after DoubleEscaped bytes =
    if is_end_tag Script bytes then Escaped
    else (if begins (codes "-->") bytes then Plain
    else DoubleEscaped)
mode_after other bytes = if begins (codes "<!--") bytes then Escaped else Plain

-- an end tag ends a script's body, but within a comment the first one after a start tag ends only what that began
abbrev pub ends_script : Mode → List ℕ → Bool
ends_script DoubleEscaped bytes = false
ends_script other bytes = is_end_tag Script bytes

-- a script's body
unfoldable pub script_body_step : Mode → List ℕ → Step
script_body_step mode [] = Nothing
script_body_step mode (b ∷ bytes) =
    if ends_script mode (b ∷ bytes) then Close else Byte 0 b (mode_after mode (b ∷ bytes))
