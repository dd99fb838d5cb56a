use Rattle.std.proofs.Common.{◌∙◌, ◌==◌, sym, ap, Some, None, arith}
use Rattle.std.specs.List.{before_first}
use Rattle.std.proofs.lemmas.List.{take_all}
use Rattle.std.proofs.lemmas.Str.Pattern.{split_once_first}
use Rattle.html_view.specs.Names.{dot}
use Rattle.hesc_views.proofs.names.partial_name.Goals as goal

pub returns-in-Some : goal.returns-in-Some
returns-in-Some c =
    let first = split_once_first dot c.behind_last_slash-file.result.now (Some (c.in-Some.name, c.in-Some._extension)) c.in-Some.ensures.cases (omega arith) in
    first.1 ∙ ap (before_first (λ b. b == dot)) c.behind_last_slash-file.ensures

pub returns-in-None : goal.returns-in-None
returns-in-None c =
    let none = split_once_first dot c.behind_last_slash-file.result.now None c.in-None.ensures.cases (omega arith) in
    sym (take_all _ c.behind_last_slash-file.result.now (omega (arith, none))) ∙ ap (before_first (λ b. b == dot)) c.behind_last_slash-file.ensures
