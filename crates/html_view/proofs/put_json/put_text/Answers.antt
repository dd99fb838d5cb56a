use Rattle.std.proofs.Common.{Some}
use Rattle.json.specs.Print.{quoted}
use Rattle.html_view.specs.Data.{Text}
use Rattle.html_view.specs.JsonTexts.{json_text}
use Rattle.html_view.proofs.JsonTexts.{text_text}
use Rattle.html_view.proofs.PuttingJson.{json_same}
use Rattle.html_view.proofs.put_json.put_text.Goals as goal

pub returns-clause-puts : goal.returns-clause-puts
returns-clause-puts g c =
    json_same (Some (quoted c.args.text.now)) (json_text (Text c.args.text.now)) (g.S.Sink.seen c.args.sink.now).taken (g.S.Sink.seen c.put_string.new.sink).taken
    c.put_string.result (text_text c.args.text.now) c.put_string.ensures.puts
