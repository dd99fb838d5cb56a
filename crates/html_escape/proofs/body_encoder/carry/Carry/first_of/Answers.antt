use Rattle.std.proofs.Common.{◌≡◌, ◌+◌, ◌-◌, ◌++◌, List, ℕ, length, take, sym, refl, ap, ◌∙◌, arith, length-append}
use Rattle.std.proofs.lemmas.List.{take_min}
use Rattle.std.proofs.lemmas.Slice.{take-put_mid}
use Rattle.std.proofs.Math.Seq.{take-append_seam, take-append-add}
use Rattle.html_escape.proofs.body_encoder.carry.Carry.first_of.Goals as goal

pub returns : goal.returns
returns c =
    let one : List ℕ = c.args.one.now in
    let other : List ℕ = c.args.other.now in
    let more : List ℕ = take c.min.result other in
    let room : ℕ = 9 - length one in
    let first : more ≡ take room other = ap (λ n. take n other) (c.min.ensures ∙ omega arith) ∙ take_min room other in
    let nine : length one + room ≡ 9 = omega (arith, c.requires) in
    let all : take 9 (one ++ other) ≡ one ++ take room other = rw nine at (take-append-add one other room) in
    rw (c.copy_from_slice.ensures.after, c.copy_from_slice-2.ensures.after)
    (take-put_mid (length one) _ _ more (length one + length more) refl (rw length-append (omega arith))
    ∙ rw (take-append_seam one _) (ap (λ x. one ++ x) first ∙ sym all))
