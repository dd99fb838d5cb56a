use Rattle.std.proofs.Common.{arith, drop, take}
use Rattle.html_urls.proofs.Encoded.Picks.{first_eight, first_is_few, first_mask, last_eight, last_is_small, last_mask, stored_halves}
use Rattle.html_urls.proofs.component.lanes.store_sixteen.Goals as goal

pub store_picked-requires-clause-mask : goal.store_picked-requires-clause-mask
store_picked-requires-clause-mask c = last_is_small c.args.v c.args.mask c.requires.long c.requires.mask

pub store_picked-requires-clause-fits : goal.store_picked-requires-clause-fits
store_picked-requires-clause-fits c =
    let w = c.args.v in
    let mask = c.args.mask in
    let long = c.requires.long in
    let first = c.store_picked-end.ensures (take 8 w) (first_eight w mask long c.requires.mask) c.eights_of.ensures.first (first_mask w mask long c.requires.mask) in
    omega (arith, first.after, first.long, first_is_few w mask long c.requires.mask, c.requires.fits)

pub returns : goal.returns
returns c =
    let w = c.args.v in
    let mask = c.args.mask in
    let long = c.requires.long in
    let first = c.store_picked-end.ensures (take 8 w) (first_eight w mask long c.requires.mask) c.eights_of.ensures.first (first_mask w mask long c.requires.mask) in
    let last = c.store_picked.ensures (drop 8 w) (last_eight w mask long c.requires.mask) c.eights_of.ensures.last (last_mask w mask long c.requires.mask) in
    stored_halves w c.args.room.now _ _ c.args.place _ _ first last
