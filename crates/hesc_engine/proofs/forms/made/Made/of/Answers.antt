use Rattle.std.proofs.Common.{length, subst, sym}
use Rattle.std.proofs.lemmas.Str.{IsCharBoundary-start}
use Rattle.hesc_specs.specs.Text.FirstPlace.{IsFirstPlace}
use Rattle.hesc_engine.proofs.Searches.{none_sought}
use Rattle.hesc_engine.proofs.forms.made.Made.of.Goals as goal

pub invariant_of-result : goal.invariant_of-result
invariant_of-result g c = record { is_first = c.in-Some-change_from_hit.ensures.found; known = c.change_from_hit.ensures.ahead; boundary = IsCharBoundary-start _ c.utf8.text; makes = g.met.R.Rule.makes c.args.rule.now c.args.text.now c.utf8.text }

pub returns-in-Some-change_from_hit-clause-some : goal.returns-in-Some-change_from_hit-clause-some
returns-in-Some-change_from_hit-clause-some g c = λ none. let found = c.in-Some-change_from_hit.ensures.found.changes in cc

pub returns-in-None-clause-none : goal.returns-in-None-clause-none
returns-in-None-clause-none g c =
    let text = c.args.text.now in
    let seek = c.seek_of-seek.ensures in
    none_sought (g.R.Rule.begins_at c.args.rule.now) (g.R.Rule.is_sought c.args.rule.now) (g.R.Rule.changes_from c.args.rule.now) seek.begins seek.ends text c.utf8.text 0 (IsCharBoundary-start _ c.utf8.text)
    (subst (λ test. IsFirstPlace test text 0 (length text)) (sym seek.sought) c.in-None.ensures.none)

pub returns-in-None-change_from_hit-clause-none : goal.returns-in-None-change_from_hit-clause-none
returns-in-None-change_from_hit-clause-none g c = c.in-None-change_from_hit.ensures.none
