use Rattle.hesc_views.proofs.Named.{behind_last, behind_none}
use Rattle.hesc_views.proofs.names.behind_last_slash.Goals as goal

pub returns-in-Some : goal.returns-in-Some
returns-in-Some c =
    let (i, j, found, front, back, ordered, front_length, back_length) = c.in-Some.ensures.cases in
    behind_last c.args.path.now c.in-Some.file.now i j found back back_length

pub returns-in-None : goal.returns-in-None
returns-in-None c = behind_none c.args.path.now c.in-None.ensures.cases
