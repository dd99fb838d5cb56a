use Rattle.std.proofs.Common.{ap, map, ◌∙◌}
use Rattle.std.specs.Simd.Lanes.{mask_l}
use Rattle.hesc_scan.proofs.lookup.hits_in.Goals as goal

pub returns : goal.returns
returns g c = c.mask_of.ensures (g.L.Lookup.has c.args.lookup.now) (c.hits.ensures ∙ ap (λ l. mask_l (map (g.L.Lookup.has c.args.lookup.now) l)) c.lanes.ensures.lanes)
