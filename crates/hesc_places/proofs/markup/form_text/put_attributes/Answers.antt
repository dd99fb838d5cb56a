use Rattle.std.proofs.Common.{◌≡◌, ◌≤◌, List, [], ◌∷◌, ◌++◌, drop, flat_map, get_or, length, map, refl, arith}
use Rattle.hesc_sinks.proofs.Took.{Progress-stop, failed}
use Rattle.hesc_places.specs.Pages.FormTexts.{attribute_text, written}
use Rattle.hesc_places.specs.declared.markup.types.Attribute.{Attribute}
use Rattle.hesc_places.proofs.markup.form_text.put_attributes.Goals as goal

first_of : (rest : List Attribute) (other : Attribute) → 1 ≤ length rest → flat_map attribute_text (map written rest) ≡ attribute_text (written (get_or rest 0 other)) ++ flat_map attribute_text (map written (drop 1 rest))
first_of [] other some = absurd (omega arith)
first_of (first ∷ rest) other some = refl

pub returns-in_err-put_attribute : goal.returns-in_err-put_attribute
returns-in_err-put_attribute g c =
    failed _ _ _ c.from_residual.result c.from_residual.ensures.0
    (Progress-stop c.attributes.invariant _ _ _ (first_of c.attributes.rest.now _ c.in-len1-up.len_at_least) c.in_err-put_attribute.ensures)
