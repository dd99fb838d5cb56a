use Rattle.std.proofs.Common.{arith, rules}
use Rattle.std.specs.Prelude.{slice_index}
use Rattle.html_json.specs.Strings.{content_image, is_escaped}
use Rattle.html_json.proofs.Changes.{found_at}
use Rattle.html_json.proofs.Quoted.{escaped_below}
use Rattle.html_json.proofs.strings.change_at.Goals as goal

pub returns : goal.returns
returns c =
    let below = escaped_below (slice_index c.args.text.now c.args.place) c.requires.sought in
    found_at is_escaped content_image c.args.text.now c.utf8.text c.args.place c.requires.within c.requires.sought (omega (arith, below)) _
    (search (rules, c.escape_of.ensures))
