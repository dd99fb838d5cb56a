use Rattle.std.proofs.Common.{◌∙◌, ◌-◌, ◌/◌, ◌^◌, ℕ, ap, arith, drop, length, map}
use Rattle.std.proofs.lemmas.List.{drop-drop, length-drop, take_all}
use Rattle.std.specs.Simd.Lanes.{mask_l}
use Rattle.memchr.specs.Find.{is_byte}
use Rattle.hesc_scan.proofs.Masks.{mask_l-drop}
use Rattle.hesc_scan.proofs.find.first_byte_of_last.Goals as goal

pub returns : goal.returns
returns c =
    let bytes = c.args.bytes.now in
    let test = is_byte c.args.byte in
    let start : ℕ = length bytes - 16 in
    let skipped : ℕ = c.args.from - start in
    c.first_set.ensures test
    (ap (λ n. n / 2 ^ skipped) c.hits_of_one_at-hits.ensures
    ∙ ap (λ l. mask_l (map test l) / 2 ^ skipped) (take_all 16 (drop start bytes) (omega (arith, length-drop start bytes)))
    ∙ mask_l-drop test (drop start bytes) skipped (omega (arith, length-drop start bytes))
    ∙ ap (λ l. mask_l (map test l)) (drop-drop skipped start bytes ∙ ap (λ n. drop n bytes) (omega arith)))
