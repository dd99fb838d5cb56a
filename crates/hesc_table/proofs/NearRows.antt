-- Decoding by rows whose values are at most a fifth longer than their references lengthens a text by a fifth at most, and leaves nothing of an empty text alone.
use Rattle.std.proofs.Common.{◌≡◌, ℕ, ◌*◌, ◌≤◌, true, List, [], length, arith}
use Rattle.std.proofs.lemmas.Bool.Decides.{nat_tests}
use Rattle.hesc_specs.specs.References.Rows.{Row}
use Rattle.hesc_specs.specs.References.Decoding.{decoded}
use Rattle.hesc_specs.proofs.References.Decoded.{Bounded, decoded-bounded}
use Rattle.hesc_table.specs.Rows.{are_near, is_near}

row-near : (row : Row) → is_near row ≡ true → Bounded (λ n. 6 * n) row.0 row.1
row-near row is = record { some = grind (arith, nat_tests); few = grind (arith, nat_tests) }

pub decoded-nearly : (rows : List Row) → are_near rows ≡ true → (text : List ℕ) → (5 * length (decoded rows text) ≤ 6 * length text) × (decoded rows text ≡ [] → text ≡ [])
decoded-nearly = decoded-bounded (λ n. 6 * n) (λ a b. omega arith) (λ n. omega arith) is_near row-near
