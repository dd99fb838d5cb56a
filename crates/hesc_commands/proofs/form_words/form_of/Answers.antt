use Rattle.std.proofs.Common.{sym, ◌∙◌}
use Rattle.std.proofs.lemmas.Bool.{eqb-false}
use Rattle.hesc_commands.proofs.Letters.{broken, too_few}
use Rattle.hesc_commands.proofs.form_words.form_of.Goals as goal

pub returns-in_default-quoting_named : goal.returns-in_default-quoting_named
returns-in_default-quoting_named c =
    sym c.attributes.invariant ∙ broken (λ word. word.now) c.attributes.rest.now _ c.in-len3-up.len_at_least c.in_default-quoting_named.ensures

pub returns-then-not-is_empty : goal.returns-then-not-is_empty
returns-then-not-is_empty c =
    sym c.attributes.invariant
    ∙ too_few (λ word. word.now) c.attributes.rest.now c.in_default.len_below (eqb-false _ _ (sym c.if-not-is_empty.ensures))
