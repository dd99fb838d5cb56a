use Rattle.std.proofs.Common.{[], ◌∷◌, ◌++◌}
use Rattle.hesc_specs.specs.Text.Ascii.{double_quote}
use Rattle.hesc_sinks.proofs.Took.{both, both_some, failed, first_some}
use Rattle.json.proofs.Printed.Utf8.{IsUtf8-quoted}
use Rattle.html_json.specs.Strings.{content_encoding}
use Rattle.html_json.proofs.Quoted.{quoted_encoding}
use Rattle.html_json.proofs.strings.put_json_string.Goals as goal

pub returns-in_err-put-clause-utf8 : goal.returns-in_err-put-clause-utf8
returns-in_err-put-clause-utf8 g c = IsUtf8-quoted c.args.text.now c.utf8.text

pub returns-in_err-run-clause-utf8 : goal.returns-in_err-run-clause-utf8
returns-in_err-run-clause-utf8 g c = IsUtf8-quoted c.args.text.now c.utf8.text

pub returns-clause-utf8 : goal.returns-clause-utf8
returns-clause-utf8 g c = IsUtf8-quoted c.args.text.now c.utf8.text

pub returns-in_err-put-clause-took : goal.returns-in_err-put-clause-took
returns-in_err-put-clause-took g c =
    rw (quoted_encoding c.args.text.now) (failed _ _ _ c.from_residual.result c.from_residual.ensures.0 (first_some _ _ (double_quote ∷ []) (content_encoding c.args.text.now ++ double_quote ∷ []) c.in_err-put.ensures))

pub returns-in_err-run-clause-took : goal.returns-in_err-run-clause-took
returns-in_err-run-clause-took g c =
    rw (quoted_encoding c.args.text.now)
    (failed _ _ _ c.from_residual-in_err-run.result c.from_residual-in_err-run.ensures.0
    (both_some _ _ _ (double_quote ∷ []) (content_encoding c.args.text.now ++ double_quote ∷ []) c.in_ok-put.ensures (first_some _ _ (content_encoding c.args.text.now) (double_quote ∷ []) c.in_err-run.ensures)))

pub returns-clause-took : goal.returns-clause-took
returns-clause-took g c =
    rw (quoted_encoding c.args.text.now)
    (both _ _ _ (double_quote ∷ []) (content_encoding c.args.text.now ++ double_quote ∷ []) c.put-2.result c.in_ok-put.ensures
    (both _ _ _ (content_encoding c.args.text.now) (double_quote ∷ []) c.put-2.result c.in_ok-run.ensures c.put-2.ensures))
