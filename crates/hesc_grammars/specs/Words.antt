-- What bytes begin with, in the terms of the grammars.
use Rattle.std.specs.Prelude.{ℕ, Bool, false, ◌||◌, List, [], ◌∷◌, ◌==◌}
use Rattle.hesc_specs.specs.Text.Ascii.{tab, line_feed, form_feed, space, slash, less_than, greater_than}
use Rattle.hesc_specs.specs.Text.Elements.{element_name}
use Rattle.hesc_specs.specs.Text.Words.{begins_in_any_case}
use Rattle.hesc_specs.specs.declared.elements.Element.{Element}

-- white space of HTML
abbrev pub is_white_space : ℕ → Bool
is_white_space b = b == tab || b == line_feed || b == form_feed || b == space

-- a tag's name ends before white space, `/` and `>`, which must follow it
abbrev pub ends_tag_name : List ℕ → Bool
ends_tag_name [] = false
ends_tag_name (b ∷ bytes) = is_white_space b || b == slash || b == greater_than

-- `<` and the element's name in any ASCII case, which ends there
abbrev pub is_start_tag : Element → List ℕ → Bool
is_start_tag element bytes = begins_in_any_case (less_than ∷ element_name element) ends_tag_name bytes

-- `</` and the element's name in any ASCII case, which ends there
abbrev pub is_end_tag : Element → List ℕ → Bool
is_end_tag element bytes = begins_in_any_case (less_than ∷ slash ∷ element_name element) ends_tag_name bytes
