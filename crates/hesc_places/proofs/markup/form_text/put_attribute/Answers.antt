use Rattle.std.proofs.Common.{◌++◌, codes}
use Rattle.hesc_sinks.proofs.Took.{both, both_some, failed, first_some}
use Rattle.hesc_places.specs.Pages.FormTexts.{value_text, written}
use Rattle.hesc_places.proofs.markup.form_text.put_attribute.Goals as goal

pub returns-in_err-put : goal.returns-in_err-put
returns-in_err-put g c =
    let entry = written c.args.attribute in
    failed _ _ _ c.from_residual.result c.from_residual.ensures.0 (first_some _ _ (codes " ") (entry.name ++ (codes "=" ++ value_text entry.quoting entry.value)) c.in_err-put.ensures)

pub returns-in_err-put-2 : goal.returns-in_err-put-2
returns-in_err-put-2 g c =
    let entry = written c.args.attribute in
    let later = codes "=" ++ value_text entry.quoting entry.value in
    failed _ _ _ c.from_residual-in_err-put-2.result c.from_residual-in_err-put-2.ensures.0
    (both_some _ _ _ (codes " ") (entry.name ++ later) c.in_ok-put.ensures (first_some _ _ entry.name later c.in_err-put-2.ensures))

pub returns-in_err-put-3 : goal.returns-in_err-put-3
returns-in_err-put-3 g c =
    let entry = written c.args.attribute in
    let value = value_text entry.quoting entry.value in
    failed _ _ _ c.from_residual-in_err-put-3.result c.from_residual-in_err-put-3.ensures.0
    (both_some _ _ _ (codes " ") (entry.name ++ (codes "=" ++ value)) c.in_ok-put.ensures (both_some _ _ _ entry.name (codes "=" ++ value) c.in_ok-put-2.ensures (first_some _ _ (codes "=") value c.in_err-put-3.ensures)))

pub returns : goal.returns
returns g c =
    let entry = written c.args.attribute in
    let value = value_text entry.quoting entry.value in
    let result = c.put_value.result in
    both _ _ _ (codes " ") (entry.name ++ (codes "=" ++ value)) result c.in_ok-put.ensures
    (both _ _ _ entry.name (codes "=" ++ value) result c.in_ok-put-2.ensures (both _ _ _ (codes "=") value result c.in_ok-put-3.ensures c.put_value.ensures))
