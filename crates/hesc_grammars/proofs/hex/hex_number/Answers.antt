use Rattle.std.proofs.Common.{ℕ, ◌≡◌, ◌≤◌, ◌<◌, ◌*◌, ◌+◌, ◌^◌, add-one, arith}
use Rattle.std.proofs.Math.Nat.{pow-le-pow_right, pow-suc}
use Rattle.std.proofs.lemmas.Grind.{common_steps}
use Rattle.std.proofs.lemmas.Int.Digits.{digits_value_more}
use Rattle.hesc_grammars.proofs.hex.hex_number.Goals as goal

-- one more digit
longer : (number digit i : ℕ) → number < 16 ^ i → digit < 16 → number * 16 + digit < 16 ^ (i + 1)
longer number digit i bounded small =
    let power : 16 ^ (i + 1) ≡ 16 ^ i * 16 = rw (add-one i) (pow-suc 16 i) in omega (arith, power)

-- at most six digits
six_digits : (i : ℕ) → i ≤ 6 → 16 ^ i ≤ 0x1000000
six_digits i six = pow-le-pow_right {n = 16} (omega arith) {i = i} {j = 6} six

pub overflow_mul-number : goal.overflow_mul-number
overflow_mul-number c =
    let power = six_digits (c.loop-digit.digit-index + 1) (omega (arith, c.requires, c.loop-digit-test.true)) in
    omega (arith, power, longer c.loop-digit.number 0 c.loop-digit.digit-index c.loop-digit.invariant.bounded (omega arith))

pub overflow_add-number : goal.overflow_add-number
overflow_add-number c =
    let power = six_digits (c.loop-digit.digit-index + 1) (omega (arith, c.requires, c.loop-digit-test.true)) in
    let small : c.in_ok-value.value < 16 = omega (arith, c.in_ok-value.ensures.value.0, c.in_ok-value.ensures.value.1) in
    omega (arith, power, longer c.loop-digit.number c.in_ok-value.value c.loop-digit.digit-index c.loop-digit.invariant.bounded small)

pub loop-digit-preserved : goal.loop-digit-preserved
loop-digit-preserved c =
    let more = digits_value_more 16 c.args.digits.now c.loop-digit.digit-index c.loop-digit-test.true in
    let small : c.in_ok-value.value < 16 = omega (arith, c.in_ok-value.ensures.value.0, c.in_ok-value.ensures.value.1) in
    record {
      number = omega (arith, more, c.loop-digit.invariant.number, c.in_ok-value.ensures.value.1);
      digits = grind (arith, common_steps);
      bounded = longer c.loop-digit.number c.in_ok-value.value c.loop-digit.digit-index c.loop-digit.invariant.bounded small;
    }
