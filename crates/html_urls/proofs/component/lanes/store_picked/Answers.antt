use Rattle.std.proofs.Common.{◌+◌, ◌*◌, ap, map, ◌∙◌}
use Rattle.html_urls.specs.Components.Lanes.{picked_from}
use Rattle.html_urls.proofs.Encoded.Picks.{picks_pass, stored_picks}
use Rattle.html_urls.proofs.component.lanes.store_picked.Goals as goal

pub picked_lanes-requires-clause-picks : goal.picked_lanes-requires-clause-picks
picked_lanes-requires-clause-picks c = picks_pass (32 * c.args.mask) c.picks_for.result.0 c.picks_for.ensures.front

pub picked_lanes-requires-2-clause-picks : goal.picked_lanes-requires-2-clause-picks
picked_lanes-requires-2-clause-picks c = picks_pass (32 * c.args.mask + 16) c.picks_for.result.1 c.picks_for.ensures.back

pub returns : goal.returns
returns c = λ bytes eight are is.
    let front = c.picked_lanes.ensures ∙ ap (map (picked_from c.args.lanes)) c.picks_for.ensures.front in
    let back = c.picked_lanes-2.ensures ∙ ap (map (picked_from c.args.lanes)) c.picks_for.ensures.back in
    stored_picks c.args.room.now c.args.lanes c.picked_lanes.result c.picked_lanes-2.result bytes c.args.place c.args.mask c.requires.mask c.requires.fits front back eight are is
