use Rattle.std.proofs.Common.{Some, ◌++◌, codes, refl}
use Rattle.json.specs.Print.{quoted}
use Rattle.html_view.specs.JsonTexts.{comma, key_text}
use Rattle.html_view.proofs.PuttingJson.{json_last, json_more, json_stop, no_json_yet}
use Rattle.html_view.proofs.put_json.put_key.Goals as goal

pub returns-in-Err-clause-puts : goal.returns-in-Err-clause-puts
returns-in-Err-clause-puts g c =
    let told = Some (key_text c.args.after c.args.name.now) in
    json_stop told told (Some (comma c.args.after)) (Some (quoted c.args.name.now ++ codes ":")) (g.S.Sink.seen c.args.sink.now).taken (g.S.Sink.seen c.args.sink.now).taken
    (g.S.Sink.seen c.put_comma.new.sink).taken c.in-Err.stop no_json_yet refl c.in-Err.ensures.puts

pub returns-in-Err-put_string-clause-puts : goal.returns-in-Err-put_string-clause-puts
returns-in-Err-put_string-clause-puts g c =
    json_stop (Some (key_text c.args.after c.args.name.now)) (Some (quoted c.args.name.now ++ codes ":")) (Some (quoted c.args.name.now)) (Some (codes ":"))
    (g.S.Sink.seen c.args.sink.now).taken (g.S.Sink.seen c.put_comma.new.sink).taken (g.S.Sink.seen c.put_string.new.sink).taken c.in-Err-put_string.stop
    (json_more no_json_yet refl c.in-Ok.ensures.puts) refl c.in-Err-put_string.ensures.puts

pub returns-clause-puts : goal.returns-clause-puts
returns-clause-puts g c =
    let last = Some (codes ":") in
    json_last (Some (key_text c.args.after c.args.name.now)) last last (g.S.Sink.seen c.args.sink.now).taken (g.S.Sink.seen c.put_string.new.sink).taken
    (g.S.Sink.seen c.put_mark.new.sink).taken c.put_mark.result
    (json_more {later = last} (json_more {later = Some (quoted c.args.name.now ++ codes ":")} no_json_yet refl c.in-Ok.ensures.puts) refl c.in-Ok-put_string.ensures.puts) refl
    c.put_mark.ensures.puts
