use Rattle.std.proofs.Common.{◌≡◌, ◌≤◌, ◌<◌, ℕ, Bool, false, List, length, slice_index, arith, inl, inr}
use Rattle.std.proofs.lemmas.Bool.{cases_lt}
use Rattle.hesc_specs.specs.Text.FirstPlace.{IsFirstPlace}
use Rattle.hesc_scan.proofs.ChunkSearch.{first_of_block, inside_of_block}
use Rattle.hesc_engine.specs.Sought.{in_sought}
use Rattle.hesc_engine.proofs.sought.first_hit.Goals as goal

-- none up to a place, and from there on none up to the end
none_at_all : (test : ℕ → Bool) (bytes : List ℕ) (from reached : ℕ) → from ≤ reached → reached ≤ length bytes
    → ((k : ℕ) → from ≤ k → k < reached → test (slice_index bytes k) ≡ false)
    → ((k : ℕ) → reached ≤ k → k < length bytes → test (slice_index bytes k) ≡ false) → IsFirstPlace test bytes from (length bytes)
none_at_all test bytes from reached after within earlier later = record {
  ordered = omega (arith, after, within);
  in_range = omega arith;
  before = λ k from_k below. elim (cases_lt k reached) [
    | inl front ↦ earlier k from_k front
    | inr following ↦ later k following below
  ];
  found = λ below. absurd (omega (arith, below));
}

pub returns-in-Ok-clause-first : goal.returns-in-Ok-clause-first
returns-in-Ok-clause-first c = (c.in-Ok.ensures.first (in_sought c.args.sought) c.requires.ahead).0

pub returns-in-Ok-clause-inside : goal.returns-in-Ok-clause-inside
returns-in-Ok-clause-inside c = (c.in-Ok.ensures.first (in_sought c.args.sought) c.requires.ahead).1

pub returns-then-reached-bytes-clause-none : goal.returns-then-reached-bytes-clause-none
returns-then-reached-bytes-clause-none c =
    let reached = c.in-Err.ensures.reached in
    none_at_all (in_sought c.args.sought) c.args.text.now c.args.from _ reached.0 reached.1 (c.in-Err.ensures.none (in_sought c.args.sought) c.requires.ahead)
    (λ k from_k below. absurd (omega (arith, from_k, below, c.if-reached-bytes.true, c.as_bytes-bytes.ensures.len)))

pub returns-then-hits-eq0-clause-none : goal.returns-then-hits-eq0-clause-none
returns-then-hits-eq0-clause-none c =
    let reached = c.in-Err.ensures.reached in
    let block = rw c.as_bytes-bytes.ensures.value at c.first_sought-start.ensures in
    let end = block.none c.if-hits-eq0.true in
    none_at_all (in_sought c.args.sought) c.args.text.now c.args.from _ reached.0 reached.1 (c.in-Err.ensures.none (in_sought c.args.sought) c.requires.ahead)
    (λ k from_k below. block.before k from_k (omega (arith, below, end)))

pub returns-clause-first : goal.returns-clause-first
returns-clause-first c =
    let reached = c.in-Err.ensures.reached in
    let none = c.in-Err.ensures.none (in_sought c.args.sought) c.requires.ahead in
    let block = rw c.as_bytes-bytes.ensures.value at c.first_sought-start.ensures in
    first_of_block (in_sought c.args.sought) c.args.text.now c.args.from _ _ _ reached.0 none block (omega (arith, c.if-hits-eq0.false))

pub returns-clause-inside : goal.returns-clause-inside
returns-clause-inside c =
    rw c.as_bytes-bytes.ensures.value at (inside_of_block (in_sought c.args.sought) c.as_bytes-bytes.result.now _ _ _ c.first_sought-start.ensures (omega (arith, c.if-hits-eq0.false)))
