-- A text with the controls that no reference stands for left as references.
use Rattle.std.specs.Prelude.{ℕ, List, [], ◌∷◌, if◌then◌else◌}
use Rattle.std.specs.List.{flat_map}
use Rattle.hesc_specs.specs.Html.{hex_reference}
use Rattle.hesc_specs.specs.References.Decoding.{is_kept_control}

abbrev pub kept_control_image : ℕ → List ℕ
kept_control_image b = if is_kept_control b then hex_reference b else b ∷ []

-- each C0 control but the four of white space by its own reference
abbrev pub with_kept_controls : List ℕ → List ℕ
with_kept_controls text = flat_map kept_control_image text
