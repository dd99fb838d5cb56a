use Rattle.std.proofs.Common.{◌≡◌, ◌∙◌, ◌+◌, ◌-◌, ℕ, List, ap, drop, length, map, sym, take, arith}
use Rattle.std.proofs.lemmas.List.{drop-drop, length-drop, take_all}
use Rattle.std.specs.Simd.Lanes.{mask_l}
use Rattle.memchr.specs.Find.{is_byte}
use Rattle.hesc_scan.proofs.Masks.{halves_by_bits}
use Rattle.hesc_scan.proofs.byte_block.mask_of_halves.Goals as goal

pub returns : goal.returns
returns c =
    let bytes = c.args.bytes.now in
    let place = c.args.place in
    let last : ℕ = length bytes - 16 in
    let skip : ℕ = last - place in
    let xs : List ℕ = drop place bytes in
    let there : length xs ≡ skip + 16 = omega (arith, length-drop place bytes, c.requires.one) in
    let later : place + skip ≡ last = omega (arith, c.requires.one) in
    let last_there : take 16 (drop last bytes) ≡ drop skip xs =
    take_all 16 (drop last bytes) (omega (arith, length-drop last bytes))
    ∙ ap (λ n. drop n bytes) (sym later)
    ∙ sym (drop-drop skip place bytes) in
    halves_by_bits (is_byte c.args.byte) xs skip _ _ (omega (arith, c.requires.both)) there c.hits_of_one_at.ensures
    (c.hits_of_one_at-2.ensures ∙ ap (λ l. mask_l (map (is_byte c.args.byte) l)) last_there)
    ∙ ap (λ l. mask_l (map (is_byte c.args.byte) l)) (sym (take_all 32 xs (omega (arith, there, c.requires.both))))
