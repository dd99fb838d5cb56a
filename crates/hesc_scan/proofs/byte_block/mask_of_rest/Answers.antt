use Rattle.std.proofs.Common.{◌∙◌, ap, drop, map, sym, arith}
use Rattle.std.proofs.lemmas.List.{length-drop, take_all}
use Rattle.std.specs.Simd.Lanes.{mask_l}
use Rattle.memchr.specs.Find.{is_byte}
use Rattle.hesc_scan.proofs.byte_block.mask_of_rest.Goals as goal

pub returns : goal.returns
returns c =
    let rest = drop c.args.place c.args.bytes.now in
    c.block_hits_of_one.ensures
    ∙ ap (λ l. mask_l (map (is_byte c.args.byte) l)) (c.rest.ensures ∙ sym (take_all 32 rest (omega (arith, length-drop c.args.place c.args.bytes.now, c.requires.few))))
