use Rattle.std.proofs.Common.{◌∙◌, ◌-◌, ◌/◌, ◌^◌, ℕ, ap, arith, drop, length, map, sym}
use Rattle.std.proofs.lemmas.List.{drop-drop, length-drop, take_all}
use Rattle.std.specs.Simd.Lanes.{mask_l}
use Rattle.memchr.specs.Find.{is_byte}
use Rattle.hesc_scan.proofs.Masks.{mask_l-drop}
use Rattle.hesc_scan.proofs.byte_block.mask_of_last.Goals as goal

pub returns : goal.returns
returns g c =
    let bytes = c.args.bytes.now in
    let test = is_byte c.args.byte in
    let start : ℕ = length bytes - g.row.N in
    let skipped : ℕ = c.args.place - start in
    let rest = drop c.args.place bytes in
    ap (λ n. n / 2 ^ skipped) c.hits_of_one_at.ensures
    ∙ ap (λ l. mask_l (map test l) / 2 ^ skipped) (take_all g.row.N (drop start bytes) (omega (arith, length-drop start bytes)))
    ∙ mask_l-drop test (drop start bytes) skipped (omega (arith, length-drop start bytes, c.requires.long))
    ∙ ap (λ l. mask_l (map test l)) (drop-drop skipped start bytes ∙ ap (λ n. drop n bytes) (omega (arith, c.requires.long, c.requires.few)) ∙ sym (take_all 32 rest (omega (arith, length-drop c.args.place bytes, c.requires.few, c.requires.small))))
