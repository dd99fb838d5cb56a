use Rattle.std.proofs.Common.{Some, ap, codes, false, true, ◌∙◌}
use Rattle.html_view.specs.Data.{Flag}
use Rattle.html_view.specs.JsonTexts.{json_text}
use Rattle.html_view.proofs.JsonTexts.{flag_json}
use Rattle.html_view.proofs.PuttingJson.{json_same}
use Rattle.html_view.proofs.put_json.put_flag.Goals as goal

pub returns-then-flag-clause-puts : goal.returns-then-flag-clause-puts
returns-then-flag-clause-puts g c =
    json_same (Some (codes "true")) (json_text (Flag c.args.flag)) (g.S.Sink.seen c.args.sink.now).taken (g.S.Sink.seen c.put_mark.new.sink).taken c.put_mark.result
    (ap (λ flag. json_text (Flag flag)) c.if-flag.true ∙ flag_json true) c.put_mark.ensures.puts

pub returns-else-flag-clause-puts : goal.returns-else-flag-clause-puts
returns-else-flag-clause-puts g c =
    json_same (Some (codes "false")) (json_text (Flag c.args.flag)) (g.S.Sink.seen c.args.sink.now).taken (g.S.Sink.seen c.put_mark-else-flag.new.sink).taken c.put_mark-else-flag.result
    (ap (λ flag. json_text (Flag flag)) c.if-flag.false ∙ flag_json false) c.put_mark-else-flag.ensures.puts
