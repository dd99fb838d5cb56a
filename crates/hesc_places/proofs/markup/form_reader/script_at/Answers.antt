use Rattle.std.proofs.Common.{arith, rules}
use Rattle.hesc_places.specs.Pages.FormReadings.{script_at}
use Rattle.hesc_places.proofs.Pages.BodyValues.{body_of_end}
use Rattle.hesc_places.proofs.markup.form_reader.script_at.Goals as goal

pub split_at-requires : goal.split_at-requires
split_at-requires g c = omega (arith, (body_of_end c.args.bytes.now c.in-Some.end c.in-Some.ensures).1)

pub returns-in_default-2 : goal.returns-in_default-2
unfolding script_at
returns-in_default-2 g c =
    rw ((body_of_end c.args.bytes.now c.in-Some.end c.in-Some.ensures).0) (search rules)

pub returns : goal.returns
unfolding script_at
returns g c =
    rw ((body_of_end c.args.bytes.now c.in-Some.end c.in-Some.ensures).0) (search rules)
