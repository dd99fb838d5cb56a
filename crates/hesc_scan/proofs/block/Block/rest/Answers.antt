use Rattle.std.proofs.Common.{ℕ, ◌-◌, ◌∙◌, ap, drop, length, w8, arith}
use Rattle.std.proofs.lemmas.List.{drop-drop, length-drop, take_all}
use Rattle.std.proofs.lemmas.Simd.{below_from_Fits, chunk-fits, length-chunk}
use Rattle.std.specs.Simd.Lanes.{chunk}
use Rattle.hesc_scan.proofs.Masks.{byte_at}
use Rattle.hesc_scan.proofs.block.Block.rest.Goals as goal

pub invariant_of-result : goal.invariant_of-result
invariant_of-result c =
    let bytes = c.args.bytes.now in
    let start : ℕ = length bytes - 32 in
    record {
      long = length-chunk start 32 bytes (omega (arith, c.if-bytes-ge32.true));
      within = (omega arith, omega (arith, c.requires.within));
      below = byte_at (chunk start 32 bytes) (below_from_Fits w8 _ (chunk-fits w8 start 32 bytes c.type_inv.bytes));
    }

pub returns-then-bytes-ge32 : goal.returns-then-bytes-ge32
returns-then-bytes-ge32 c =
    let bytes = c.args.bytes.now in
    let start : ℕ = length bytes - 32 in
    ap (drop (c.args.place - start)) (take_all 32 (drop start bytes) (omega (arith, length-drop start bytes)))
    ∙ drop-drop (c.args.place - start) start bytes
    ∙ ap (λ n. drop n bytes) (omega arith)
