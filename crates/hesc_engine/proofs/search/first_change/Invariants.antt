use Rattle.std.proofs.Common.{◌≡◌, ◌≤◌, ◌<◌, ◌-◌, ℕ, false, length}
use Rattle.hesc_engine.specs.Ahead.{IsAhead}
use Rattle.hesc_engine.proofs.search.first_change.Given as goal

-- no change begins up to where the search has come
abbrev pub invariant-seeking : goal.invariant-seeking
invariant-seeking g l = record {
  ordered : l.from ≤ l.reached;
  within : l.reached ≤ length l.text;
  none : (k : ℕ) → l.from ≤ k → k < l.reached → g.R.Rule.begins_at l.rule l.text k ≡ false;
  ahead : IsAhead (g.R.Rule.is_sought l.rule) l.text l.ahead;
}

abbrev pub decreases-seeking : goal.decreases-seeking
decreases-seeking g l = length l.text - l.reached
