use Rattle.std.proofs.Common.{arith, subst, sym}
use Rattle.std.proofs.lemmas.Str.{IsCharBoundary-start}
use Rattle.hesc_specs.specs.Text.FirstPlace.{IsFirstPlace}
use Rattle.hesc_engine.proofs.Searches.{first_begins, none_through}
use Rattle.hesc_engine.proofs.search.change_from_hit.Goals as goal

pub returns-in-Some-clause-found : goal.returns-in-Some-clause-found
returns-in-Some-clause-found g c =
    let seek = c.requires.seek in
    let text = c.args.text.now in
    let found = c.in-Some.ensures.found in
    let first = subst (λ test. IsFirstPlace test text 0 c.args.place) (sym seek.sought) c.requires.first in
    found.next 0 (IsCharBoundary-start _ c.utf8.text)
    (first_begins (g.R.Rule.begins_at c.args.rule.now) (g.R.Rule.is_sought c.args.rule.now) seek.begins text 0 0 c.args.place (omega arith) (λ k after below. absurd (omega (arith, below))) first (λ _. found.begins))

pub first_change-requires-clause-boundary : goal.first_change-requires-clause-boundary
first_change-requires-clause-boundary g c = IsCharBoundary-start _ c.utf8.text

pub first_change-requires-clause-passed : goal.first_change-requires-clause-passed
first_change-requires-clause-passed g c =
    let seek = c.requires.seek in
    let first = subst (λ test. IsFirstPlace test c.args.text.now 0 c.args.place) (sym seek.sought) c.requires.first in
    none_through (g.R.Rule.begins_at c.args.rule.now) (g.R.Rule.is_sought c.args.rule.now) seek.begins c.args.text.now 0 c.args.place first c.in-None.ensures.none
