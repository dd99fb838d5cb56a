-- The grammar of each place, and its reading.
use Rattle.std.specs.Prelude.{ℕ, List, Option}
use Rattle.hesc_specs.specs.Text.Ascii.{tab, line_feed, form_feed, space, double_quote, single_quote, less_than, greater_than}
use Rattle.hesc_specs.specs.declared.elements.Element.{Element}
use Rattle.hesc_specs.specs.declared.elements.Element.TheVariants.{Script, Style}
use Rattle.hesc_grammars.specs.declared.step.Mode.{Mode}
use Rattle.hesc_grammars.specs.declared.step.Mode.TheVariants.{Empty, Plain}
use Rattle.hesc_grammars.specs.declared.step.Step.{Step}
use Rattle.hesc_grammars.specs.declared.place.End.{End}
use Rattle.hesc_grammars.specs.declared.place.End.TheVariants.{Tab, LineFeed, FormFeed, Space, Greater}
use Rattle.hesc_grammars.specs.declared.place.Place.{Place}
use Rattle.hesc_grammars.specs.declared.place.Place.TheVariants.{Text, DoubleAttribute, SingleAttribute, UnquotedAttribute, ScriptSingle, ScriptDouble, StyleSingle, StyleDouble, ScriptBody, StyleBody}
use Rattle.hesc_grammars.specs.Bodies.{script_body_step, style_body_step}
use Rattle.hesc_grammars.specs.Html.{marked_step, unquoted_step}
use Rattle.hesc_grammars.specs.Reading.{reading_after}
use Rattle.hesc_grammars.specs.ScriptStrings.{script_string_step}
use Rattle.hesc_grammars.specs.StyleStrings.{style_string_step}

-- the byte of an ending
abbrev pub end_byte : End → ℕ
end_byte Tab = tab
end_byte LineFeed = line_feed
end_byte FormFeed = form_feed
end_byte Space = space
end_byte Greater = greater_than

-- what begins at a position of a place
abbrev pub step_of : Place → Mode → List ℕ → Step
step_of Text = marked_step less_than
step_of DoubleAttribute = marked_step double_quote
step_of SingleAttribute = marked_step single_quote
step_of (UnquotedAttribute end) = unquoted_step (end_byte end)
step_of ScriptSingle = script_string_step single_quote
step_of ScriptDouble = script_string_step double_quote
step_of StyleSingle = style_string_step single_quote
step_of StyleDouble = style_string_step double_quote
step_of ScriptBody = script_body_step
step_of StyleBody = style_body_step

-- the mode at the opening mark: an unquoted value has at least one item
abbrev pub first_mode : Place → Mode
first_mode Text = Plain
first_mode DoubleAttribute = Plain
first_mode SingleAttribute = Plain
first_mode (UnquotedAttribute end) = Empty
first_mode ScriptSingle = Plain
first_mode ScriptDouble = Plain
first_mode StyleSingle = Plain
first_mode StyleDouble = Plain
first_mode ScriptBody = Plain
first_mode StyleBody = Plain

-- the reading of the bytes after a place's opening mark: a value and an end, if there is one
abbrev pub reading : Place → List ℕ → Option (List ℕ × ℕ)
reading place bytes = reading_after (step_of place) 0 (first_mode place) bytes

-- the place of an element's body
abbrev pub body_of : Element → Place
body_of Script = ScriptBody
body_of Style = StyleBody

-- where a reading ends
abbrev pub end_of : List ℕ × ℕ → ℕ
end_of found = found.1
