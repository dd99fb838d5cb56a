use Rattle.std.proofs.Common.{◌≡◌, length, drop, sym, ◌∙◌, arith}
use Rattle.std.proofs.Math.Seq.{drop-length}
use Rattle.std.proofs.lemmas.List.{take_rest}
use Rattle.hesc_specs.specs.Text.Elements.{element_name}
use Rattle.hesc_grammars.specs.Words.{ends_tag_name}
use Rattle.hesc_specs.specs.Text.Words.{begins_in_any_case}
use Rattle.hesc_grammars.proofs.bodies.is_named.Goals as goal

pub returns : goal.returns
returns c =
    let name = c.name_of-name.result.now in
    let tag = c.args.tag.now in
    let reached : c.loop-i.i ≡ length name = omega (arith, c.loop-i-test.false, c.loop-i.auto) in
    let same : begins_in_any_case (element_name c.args.element) ends_tag_name tag ≡ ends_tag_name (drop (length name) tag) =
    rw (reached, drop-length name) at c.loop-i.invariant.same in
    (rw (take_rest tag (length name)) at c.ends_tag_name.ensures) ∙ sym same
