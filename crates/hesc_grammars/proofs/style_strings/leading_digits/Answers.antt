use Rattle.std.proofs.Common.{ℕ, ◌≡◌, List, take, drop, sym, ◌∙◌, ap, arith}
use Rattle.std.specs.Char.{is_digit}
use Rattle.std.specs.List.{prefix_len}
use Rattle.std.proofs.lemmas.List.{take_min}
use Rattle.std.proofs.lemmas.List.Sums.{prefix_len-drop_no, prefix_len-drop_all}
use Rattle.hesc_grammars.proofs.style_strings.leading_digits.Goals as goal
use Rattle.hesc_grammars.proofs.style_strings.leading_digits.Goals.{then-loop-count-test+else-is_digit, else-loop-count-test}

pub returns-clause-value : goal.returns-clause-value
returns-clause-value c =
    let bytes : List ℕ = c.args.bytes.now in
    let first_six : List ℕ = take c.min.result bytes in
    let six : first_six ≡ take 6 bytes =
    ap (λ n. take n bytes) (c.min.ensures ∙ omega arith) ∙ take_min 6 bytes in
    let stops : prefix_len (λ d. is_digit d 16) (drop c.loop-count.count first_six) ≡ 0 =
    elim c.loop-count-test.branch [
      | then-loop-count-test+else-is_digit w ↦
          prefix_len-drop_no (λ d. is_digit d 16) first_six c.loop-count.count 0 w.loop-count-test.true (sym w.if-is_digit.ensures.value)
      | else-loop-count-test w ↦
          prefix_len-drop_all (λ d. is_digit d 16) first_six c.loop-count.count w.loop-count-test.false
    ] in
    let counted : c.loop-count.count ≡ prefix_len (λ d. is_digit d 16) first_six =
    omega (arith, stops, c.loop-count.invariant.counted) in
    ap (λ n. take n first_six) counted ∙ ap (λ bs. take (prefix_len (λ d. is_digit d 16) bs) bs) six
