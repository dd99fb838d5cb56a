use Rattle.std.proofs.Common.{Some, codes}
use Rattle.html_view.specs.Data.{Nothing}
use Rattle.html_view.specs.JsonTexts.{json_text}
use Rattle.html_view.proofs.JsonTexts.{nothing_text}
use Rattle.html_view.proofs.PuttingJson.{json_same}
use Rattle.html_view.proofs.put_json.put_nothing.Goals as goal

pub returns-clause-puts : goal.returns-clause-puts
returns-clause-puts g c =
    json_same (Some (codes "null")) (json_text Nothing) (g.S.Sink.seen c.args.sink.now).taken (g.S.Sink.seen c.put_mark.new.sink).taken c.put_mark.result nothing_text
    c.put_mark.ensures.puts
