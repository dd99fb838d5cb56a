use Rattle.std.proofs.Common.{◌≡◌, ◌∙◌, true, false, refl, sym}
use Rattle.hesc_specs.specs.Text.Words.{begins}
use Rattle.hesc_grammars.proofs.NamedReferences.{begins_is}
use Rattle.hesc_grammars.proofs.references.named_reference.Goals as goal

pub returns-then-starts_with : goal.returns-then-starts_with
returns-then-starts_with c =
    let begun : begins c.args.word.now c.args.bytes.now ≡ true =
    sym (begins_is c.args.word.now c.args.bytes.now) ∙ sym c.starts_with.ensures.value ∙ c.if-starts_with.true in
    rw begun refl

pub returns-else-starts_with : goal.returns-else-starts_with
returns-else-starts_with c =
    let begun : begins c.args.word.now c.args.bytes.now ≡ false =
    sym (begins_is c.args.word.now c.args.bytes.now) ∙ sym c.starts_with.ensures.value ∙ c.if-starts_with.false in
    rw begun refl
