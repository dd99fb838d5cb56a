use borrow.Author.Tests.{ltb-true}
use Rattle.std.proofs.lemmas.Bool.Decides.{nat_tests}
use Rattle.std.proofs.Common.{take, drop, length, length-drop, ◌-◌, slice_index, ◌⊎◌, ◌≡◌, ◌∷◌, ◌∙◌, refl, sym, arith}
use Rattle.std.proofs.lemmas.List.{take_all}
use Rattle.hesc_grammars.proofs.NamedReferences.{reference-decimal, reference-hex, has_first}
use Rattle.hesc_grammars.proofs.ReferenceBodies.{reference-two_digits}
use Rattle.hesc_grammars.proofs.references.number_reference.Goals as goal
use Rattle.hesc_grammars.proofs.references.number_reference.Goals.{in_default-via-then-bytes-lt1, in_default-via-else-bytes-lt1+in_default-1}

pub returns : goal.returns
returns c =
    sym (reference-two_digits (35 ∷ c.args.bytes.now) c.in-Some.character (omega arith) refl (omega arith) (omega arith) (sym c.in-Some.ensures))

pub returns-in-120-bytes : goal.returns-in-120-bytes
returns-in-120-bytes c =
    let bytes = c.args.bytes.now in
    let mark : (slice_index bytes 0 ≡ 120) ⊎ (slice_index bytes 0 ≡ 88) = grind arith in
    let digits : take (length bytes - 1) (drop 1 bytes) ≡ drop 1 bytes =
    take_all (length bytes - 1) (drop 1 bytes) (omega (arith, length-drop 1 bytes)) in
    (rw digits at c.numbered_reference.ensures) ∙ sym (reference-hex bytes c.in-120-bytes.len_at_least mark)

pub returns-in_default : goal.returns-in_default
returns-in_default c =
    let bytes = c.args.bytes.now in
    let small : slice_index bytes 0 ≡ 120 → ⊥ = λ is. elim c.in_default.branch [
      | in_default-via-then-bytes-lt1 w ↦ omega (arith, ltb-true, has_first bytes (omega arith))
      | in_default-via-else-bytes-lt1+in_default-1 w ↦ grind (arith, nat_tests)
    ] in
    let large : slice_index bytes 0 ≡ 88 → ⊥ = λ is. elim c.in_default.branch [
      | in_default-via-then-bytes-lt1 w ↦ omega (arith, ltb-true, has_first bytes (omega arith))
      | in_default-via-else-bytes-lt1+in_default-1 w ↦ grind (arith, nat_tests)
    ] in
    c.numbered_reference-in_default.ensures ∙ sym (reference-decimal bytes small large)
