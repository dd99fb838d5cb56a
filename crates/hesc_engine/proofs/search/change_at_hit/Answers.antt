use Rattle.hesc_sinks.specs.declared.found.Replacement.TheVariants.{Small}
use Rattle.hesc_engine.proofs.search.change_at_hit.Goals as goal

pub returns-in-Some-text_for-clause-found : goal.returns-in-Some-text_for-clause-found
returns-in-Some-text_for-clause-found g c =
    let text = rw c.as_bytes.ensures.value at c.in-Some-text_for.ensures in
    let replaces = (rw c.in-Some.is at c.requires.seek.replaces) in
    replaces c.args.text.now c.utf8.text c.args.place c.requires.within c.requires.sought text.some (Small c.in-Some-text_for.text) text.text
