use Rattle.std.proofs.Common.{◌≡◌, take, drop, ap, ◌∙◌, arith}
use Rattle.std.proofs.lemmas.List.{drop-map, take-map}
use Rattle.std.proofs.lemmas.List.Sums.{sum_by-append}
use Rattle.std.specs.List.{sum_by}
use Rattle.std.specs.Simd.Lanes.{sum_l}
use Rattle.hesc_scan.proofs.KeptLanes.{few_kept, held, sum_of_block}
use Rattle.hesc_scan.proofs.LaneMaps.{sum-map}
use Rattle.hesc_scan.proofs.block.Block.kept.Goals as goal

pub returns-clause-sum : goal.returns-clause-sum
returns-clause-sum c =
    λ f are.
    let block = c.args.self.now in
    let whole = sum_of_block block.front block.skip block.within.0 c.args.values c.fits-values.0 in
    let first : sum_l (take block.front c.args.values) ≡ sum_by f (take block.front block.lanes) =
    ap (λ l. sum_l (take block.front l)) are ∙ ap sum_l (take-map f block.front block.lanes) ∙ sum-map f (take block.front block.lanes) in
    let last : sum_l (drop block.skip c.args.values) ≡ sum_by f (drop block.skip block.lanes) =
    ap (λ l. sum_l (drop block.skip l)) are ∙ ap sum_l (drop-map f block.skip block.lanes) ∙ sum-map f (drop block.skip block.lanes) in
    whole ∙ omega (arith, first, last, sum_by-append f (take block.front block.lanes) (drop block.skip block.lanes))

pub returns-clause-few : goal.returns-clause-few
returns-clause-few c = λ most few. few_kept most (held c.args.self.now.front c.args.self.now.skip 0 32) c.args.values 32 few
