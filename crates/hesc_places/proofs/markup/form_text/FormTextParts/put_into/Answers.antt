use Rattle.std.proofs.Common.{◌++◌, codes, flat_map, map}
use Rattle.hesc_sinks.proofs.Took.{both, both_some, failed, first_some}
use Rattle.hesc_places.specs.Pages.FormTexts.{attribute_text, gap, script_text, written}
use Rattle.hesc_places.proofs.markup.form_text.FormTextParts.put_into.Goals as goal

pub returns-in_err-put : goal.returns-in_err-put
returns-in_err-put g c =
    let entries = map written c.args.self.now.attributes.now in
    failed _ _ _ c.from_residual.result c.from_residual.ensures.0
    (first_some _ _ (codes "<input") (flat_map attribute_text entries ++ (gap entries ++ script_text c.args.self.now.script.now)) c.in_err-put.ensures)

pub returns-in_err-put_attributes : goal.returns-in_err-put_attributes
returns-in_err-put_attributes g c =
    let entries = map written c.args.self.now.attributes.now in
    let later = gap entries ++ script_text c.args.self.now.script.now in
    failed _ _ _ c.from_residual-in_err-put_attributes.result c.from_residual-in_err-put_attributes.ensures.0
    (both_some _ _ _ (codes "<input") (flat_map attribute_text entries ++ later) c.in_ok-put.ensures (first_some _ _ (flat_map attribute_text entries) later c.in_err-put_attributes.ensures))

pub returns-in_err-put-2 : goal.returns-in_err-put-2
returns-in_err-put-2 g c =
    let entries = map written c.args.self.now.attributes.now in
    let script = script_text c.args.self.now.script.now in
    failed _ _ _ c.from_residual-in_err-put-2.result c.from_residual-in_err-put-2.ensures.0
    (both_some _ _ _ (codes "<input") (flat_map attribute_text entries ++ (gap entries ++ script)) c.in_ok-put.ensures
    (both_some _ _ _ (flat_map attribute_text entries) (gap entries ++ script) c.in_ok-put_attributes.ensures (first_some _ _ (gap entries) script (rw c.gap.ensures at c.in_err-put-2.ensures))))

pub returns : goal.returns
returns g c =
    let entries = map written c.args.self.now.attributes.now in
    let script = script_text c.args.self.now.script.now in
    let result = c.put_between.result in
    both _ _ _ (codes "<input") (flat_map attribute_text entries ++ (gap entries ++ script)) result c.in_ok-put.ensures
    (both _ _ _ (flat_map attribute_text entries) (gap entries ++ script) result c.in_ok-put_attributes.ensures
    (both _ _ _ (gap entries) script result (rw c.gap.ensures at c.in_ok-put-2.ensures) c.put_between.ensures))
