use Rattle.std.proofs.Common.{◌≡◌, ℕ, ◌+◌, ◌<◌, Bool, true, false, ◌&&◌, ◌==◌, List, length, drop, refl, sym, ◌∙◌, arith, rules, tests}
use Rattle.std.specs.Prelude.{slice_index}
use Rattle.std.specs.Char.{to_ascii_lowercase}
use Rattle.std.proofs.Math.Seq.{drop-length}
use Rattle.std.proofs.lemmas.List.{drop_more, take_rest}
use borrow.Author.Tests.{ltb-true}
use Rattle.hesc_specs.specs.Text.Elements.{element_name}
use Rattle.hesc_specs.specs.Bodies.Openings.{ends_name}
use Rattle.hesc_specs.specs.Text.Words.{begins_in_any_case}
use Rattle.hesc_scan.proofs.openings.is_named.Goals as goal

-- one letter of the name and one of the tag
letter : (name tag : List ℕ) (i : ℕ) (same : Bool) → i < length name → i < length tag → (to_ascii_lowercase (slice_index tag i) == slice_index name i) ≡ same
    → begins_in_any_case (drop i name) ends_name (drop i tag) ≡ same && begins_in_any_case (drop (i + 1) name) ends_name (drop (i + 1) tag)
letter name tag i same in_name in_tag is = rw (drop_more name i 0 in_name, drop_more tag i 0 in_tag, is) refl

pub returns : goal.returns
returns c =
    let name = c.name_of-name.result.now in
    let tag = c.args.tag.now in
    let reached : c.loop-i.i ≡ length name = omega (arith, c.loop-i-test.false, c.loop-i.auto) in
    let same : begins_in_any_case (element_name c.args.element) ends_name tag ≡ ends_name (drop (length name) tag) =
    rw (reached, drop-length name) at c.loop-i.invariant.same in
    (rw (take_rest tag (length name)) at c.ends_name.ensures) ∙ sym same

pub returns-in_default : goal.returns-in_default
returns-in_default c =
    let within : c.loop-i.i < length c.args.tag.now = ltb-true _ _ (sym c.in-Some.ensures.lookup.0) in
    sym (c.loop-i.invariant.same ∙ letter c.name_of-name.result.now c.args.tag.now c.loop-i.i false (omega arith) within (search (rules, tests)))

pub loop-i-preserved : goal.loop-i-preserved
loop-i-preserved c =
    let within : c.loop-i.i < length c.args.tag.now = ltb-true _ _ (sym c.in-Some.ensures.lookup.0) in
    record {
      within = omega arith;
      same = c.loop-i.invariant.same ∙ letter c.name_of-name.result.now c.args.tag.now c.loop-i.i true (omega arith) within (search (rules, tests));
    }
