use Rattle.std.proofs.Common.{Some}
use Rattle.json.specs.Print.{quoted}
use Rattle.html_view.specs.Data.{Number}
use Rattle.html_view.specs.JsonTexts.{json_text}
use Rattle.html_view.proofs.JsonTexts.{no_number_text, number_text}
use Rattle.html_view.proofs.PuttingJson.{json_same}
use Rattle.html_view.proofs.put_json.put_number.Goals as goal

pub returns-then-is_number-clause-puts : goal.returns-then-is_number-clause-puts
returns-then-is_number-clause-puts g c =
    json_same (Some c.args.text.now) (json_text (Number c.args.text.now)) (g.S.Sink.seen c.args.sink.now).taken (g.S.Sink.seen c.put_word.new.sink).taken c.put_word.result
    (number_text c.args.text.now (c.is_number.ensures.0 c.if-is_number.true)) c.put_word.ensures.puts

pub returns-else-is_number-clause-puts : goal.returns-else-is_number-clause-puts
returns-else-is_number-clause-puts g c =
    json_same (Some (quoted c.args.text.now)) (json_text (Number c.args.text.now)) (g.S.Sink.seen c.args.sink.now).taken (g.S.Sink.seen c.put_string.new.sink).taken
    c.put_string.result (no_number_text c.args.text.now (λ is. let told = c.is_number.ensures.1 is in cc)) c.put_string.ensures.puts
