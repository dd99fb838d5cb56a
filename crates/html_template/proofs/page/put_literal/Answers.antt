use Rattle.std.proofs.Common.{[], ◌∷◌, ◌++◌}
use Rattle.hesc_specs.specs.Text.Ascii.{double_quote}
use Rattle.hesc_specs.specs.Text.Escaped.{escaped}
use Rattle.hesc_sinks.proofs.Took.{both, both_some, failed, first_some}
use Rattle.html_template.proofs.page.put_literal.Goals as goal

pub returns-in_err-put : goal.returns-in_err-put
returns-in_err-put g c =
    failed _ _ _ c.from_residual.result c.from_residual.ensures.0 (first_some _ _ (double_quote ∷ []) (escaped c.args.class c.args.text.now ++ double_quote ∷ []) c.in_err-put.ensures)

pub returns-in_err-put_escaped : goal.returns-in_err-put_escaped
returns-in_err-put_escaped g c =
    failed _ _ _ c.from_residual-in_err-put_escaped.result c.from_residual-in_err-put_escaped.ensures.0
    (both_some _ _ _ (double_quote ∷ []) (escaped c.args.class c.args.text.now ++ double_quote ∷ []) c.in_ok-put.ensures (first_some _ _ (escaped c.args.class c.args.text.now) (double_quote ∷ []) c.in_err-put_escaped.ensures))

pub returns : goal.returns
returns g c =
    both _ _ _ (double_quote ∷ []) (escaped c.args.class c.args.text.now ++ double_quote ∷ []) c.put-2.result c.in_ok-put.ensures
    (both _ _ _ (escaped c.args.class c.args.text.now) (double_quote ∷ []) c.put-2.result c.in_ok-put_escaped.ensures c.put-2.ensures)
