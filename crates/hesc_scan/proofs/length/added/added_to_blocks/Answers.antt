use Rattle.std.proofs.Common.{◌≡◌, ◌≤◌, ◌<◌, ◌+◌, ◌*◌, ◌∙◌, ap, refl, subst, sym, arith}
use Rattle.std.proofs.lemmas.List.{map-id, take_all}
use Rattle.std.proofs.lemmas.Simd.{Each1-weaker, fold-sum, sum_bound, sum_fits}
use Rattle.std.specs.List.{sum_by}
use Rattle.std.specs.Simd.Lanes.{Each1, sum_l}
use Rattle.hesc_scan.proofs.ChunkSearch.{StandsAt, below_256, chunk_stands}
use Rattle.hesc_scan.proofs.Lengths.LaneSums.{few_after, lanes_fit, long_after, sum_after}
use Rattle.hesc_scan.proofs.length.added.added_to_blocks.Goals as goal
use lib.Lanes.{Steps, fold_l}
use mir.Syntax.{w16}
use mir.Val.{Fits}

pub of_lanes-sums-requires : goal.of_lanes-sums-requires
of_lanes-sums-requires g c =
    let chunks = c.as_chunks.ensures in
    let i = c.loop-chunk.chunk-index in
    let stands : StandsAt c.args.bytes.now (32 * i) _ =
    chunk_stands c.args.bytes.now _ 0 c.as_chunks.result.0.now i (omega arith) refl chunks.front chunks.front_len (omega arith) (32 * i) (omega arith) in
    below_256 c.args.bytes.now _ (32 * i) c.type_inv.bytes stands

pub overflow_add-sums : goal.overflow_add-sums
overflow_add-sums g c =
    let chunks = c.as_chunks.ensures in
    let i = c.loop-chunk.chunk-index in
    let stands : StandsAt c.args.bytes.now (32 * i) _ =
    chunk_stands c.args.bytes.now _ 0 c.as_chunks.result.0.now i (omega arith) refl chunks.front chunks.front_len (omega arith) (32 * i) (omega arith) in
    let f = g.L.AddedLength.of_byte c.args.added.now in
    let few = subst (Each1 (λ a. a ≤ 5)) c.of_lanes-sums.ensures.added c.of_lanes-sums.ensures.few in
    let before = c.loop-chunk.invariant in
    rw c.of_lanes-sums.ensures.added (lanes_fit f c.args.bytes.now _ c.loop-chunk.sums i (omega (arith, chunks.front_len, c.requires.few)) stands before.long before.few few)

pub loop-chunk-preserved : goal.loop-chunk-preserved
loop-chunk-preserved g c =
    let chunks = c.as_chunks.ensures in
    let i = c.loop-chunk.chunk-index in
    let stands : StandsAt c.args.bytes.now (32 * i) _ =
    chunk_stands c.args.bytes.now _ 0 c.as_chunks.result.0.now i (omega arith) refl chunks.front chunks.front_len (omega arith) (32 * i) (omega arith) in
    let f = g.L.AddedLength.of_byte c.args.added.now in
    let few = subst (Each1 (λ a. a ≤ 5)) c.of_lanes-sums.ensures.added c.of_lanes-sums.ensures.few in
    let before = c.loop-chunk.invariant in
    let few_blocks : i < 48 = omega (arith, chunks.front_len, c.requires.few) in
    rw c.of_lanes-sums.ensures.added (record {
      long = long_after f c.args.bytes.now _ c.loop-chunk.sums i few_blocks stands before.long before.few few;
      few = few_after f c.args.bytes.now _ c.loop-chunk.sums i few_blocks stands before.long before.few few;
      sum = sum_after f c.args.bytes.now _ c.loop-chunk.sums i few_blocks stands before.long before.few few before.sum;
    })

pub overflow_cast-result : goal.overflow_cast-result
overflow_cast-result g c = Each1-weaker (λ a. a ≤ 5 * c.loop-chunk.chunk-index) _ (λ a few. record { fits = omega (arith, c.as_chunks.ensures.front_len, c.requires.few) }) c.loop-chunk.sums c.loop-chunk.invariant.few

pub overflow_add-result : goal.overflow_add-result
overflow_add-result g c =
    let few = Each1-weaker (λ a. a ≤ 5 * c.loop-chunk.chunk-index) (λ a. a ≤ 240) (λ a few. omega (arith, c.as_chunks.ensures.front_len, c.requires.few)) c.loop-chunk.sums c.loop-chunk.invariant.few in
    subst (Steps (λ s x. Fits w16 (s + x)) (λ s x. s + x) 0) (sym (map-id c.loop-chunk.sums))
    (sum_fits w16 0 c.loop-chunk.sums (omega (arith, sum_bound 240 c.loop-chunk.sums few, c.loop-chunk.invariant.long)))

pub returns : goal.returns
returns g c =
    let f = g.L.AddedLength.of_byte c.args.added.now in
    let whole : sum_l c.loop-chunk.sums ≡ sum_by f c.args.bytes.now =
    c.loop-chunk.invariant.sum ∙ ap (sum_by f) (take_all (32 * c.loop-chunk.chunk-index) c.args.bytes.now (omega (arith, c.as_chunks.ensures.front_len, c.requires.whole))) in
    ap (fold_l (λ s x. s + x) 0) (map-id c.loop-chunk.sums) ∙ omega (arith, fold-sum 0 c.loop-chunk.sums, whole)
