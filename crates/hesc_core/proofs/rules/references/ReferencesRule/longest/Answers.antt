use Rattle.std.proofs.Common.{◌≡◌, ◌≤◌, ◌+◌, ◌*◌, ◌/◌, ℕ, Option, Some, None, IfSome, SomeIff, ap, length, arith}
use Rattle.hesc_specs.proofs.References.Decoded.{decoded-empty, decoded-shorter}
use Rattle.hesc_table.specs.Table.{rows_of}
use Rattle.hesc_table.proofs.NearRows.{decoded-nearly}
use Rattle.hesc_core.proofs.rules.references.ReferencesRule.longest.Goals as goal

-- what holds of a sum holds of it where it can be had
of_sum : (found : Option ℕ) (P : Type 0) (sum : ℕ) (Q : ℕ → Type 0) → SomeIff found P sum → Q sum → IfSome found Q
of_sum None P sum Q is holds = tt
of_sum (Some n) P sum Q is holds = rw is.1 holds

fifth_more : (made source : ℕ) → 5 * made ≤ 6 * source → made ≤ source + source / 5
fifth_more made source near = omega (arith, near)

no_fifth : (source : ℕ) → source ≡ 0 → source + source / 5 ≡ 0
no_fifth source none = omega (arith, none)

pub returns-in-Never-clause-enough : goal.returns-in-Never-clause-enough
returns-in-Never-clause-enough c = decoded-shorter (rows_of c.args.self.now.0.now) c.in-Never.ensures c.args.text.now

pub returns-in-Never-clause-empty : goal.returns-in-Never-clause-empty
returns-in-Never-clause-empty c nothing = ap length (decoded-empty (rows_of c.args.self.now.0.now) c.in-Never.ensures c.args.text.now nothing)

pub returns-in-AtMostAFifth-clause-enough : goal.returns-in-AtMostAFifth-clause-enough
returns-in-AtMostAFifth-clause-enough c =
    of_sum _ _ _ _ c.checked_add.ensures (fifth_more _ (length c.args.text.now) (decoded-nearly (rows_of c.args.self.now.0.now) c.in-AtMostAFifth.ensures c.args.text.now).0)

pub returns-in-AtMostAFifth-clause-empty : goal.returns-in-AtMostAFifth-clause-empty
returns-in-AtMostAFifth-clause-empty c =
    of_sum _ _ _ _ c.checked_add.ensures
    (λ nothing. no_fifth (length c.args.text.now) (ap length ((decoded-nearly (rows_of c.args.self.now.0.now) c.in-AtMostAFifth.ensures c.args.text.now).1 nothing)))
