use Rattle.std.proofs.Common.{◌≤◌, ◌+◌, ◌∙◌, ap, map, subst, sym, arith}
use Rattle.std.proofs.lemmas.List.{map-id}
use Rattle.std.proofs.lemmas.Simd.{Each1-weaker, fold-sum, sum_bound, sum_fits}
use Rattle.hesc_scan.proofs.length.added.added_to_block.Goals as goal
use lib.Lanes.{Steps, fold_l}
use mir.Syntax.{w16}
use mir.Val.{Fits}

pub overflow_cast-result : goal.overflow_cast-result
overflow_cast-result g c = Each1-weaker (λ a. a ≤ 5) _ (λ a few. record { fits = omega arith }) c.kept-kept.result (c.kept-kept.ensures.few 5 c.of_lanes.ensures.few)

pub overflow_add-result : goal.overflow_add-result
overflow_add-result g c =
    let kept = c.kept-kept.result in
    subst (Steps (λ s x. Fits w16 (s + x)) (λ s x. s + x) 0) (sym (map-id kept))
    (sum_fits w16 0 kept (omega (arith, sum_bound 5 kept (c.kept-kept.ensures.few 5 c.of_lanes.ensures.few))))

pub returns : goal.returns
returns g c =
    let kept = c.kept-kept.result in
    ap (fold_l (λ s x. s + x) 0) (map-id kept) ∙ fold-sum 0 kept ∙ omega (arith, c.kept-kept.ensures.sum _ (c.of_lanes.ensures.added ∙ ap (map (g.L.AddedLength.of_byte c.args.added.now)) c.lanes.ensures.lanes))
