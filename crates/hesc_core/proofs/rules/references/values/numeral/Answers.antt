use Rattle.std.proofs.Common.{take, refl, arith}
use Rattle.std.proofs.lemmas.Grind.{common_steps}
use Rattle.std.proofs.lemmas.Int.Digits.{digits_value_more}
use Rattle.std.specs.Str.Parse.{digits_value}
use Rattle.hesc_specs.specs.References.Numbers.{base_of}
use Rattle.hesc_specs.proofs.References.Capped.{capped-digit}
use Rattle.hesc_core.proofs.rules.references.values.numeral.Goals as goal

pub loop-digit-preserved : goal.loop-digit-preserved
loop-digit-preserved c =
    let base = base_of c.args.is_hex in
    let more = digits_value_more base c.args.digits.now c.loop-digit.digit-index c.loop-digit-test.true in
    let held = capped-digit c.args.is_hex (digits_value base (take c.loop-digit.digit-index c.args.digits.now)) c.in_ok-value.value in
    record {
      number = cc (held, more, c.with_digit-number.ensures, c.loop-digit.invariant.number, c.in_ok-value.ensures.value.1);
      digits = grind (arith, common_steps);
    }

pub loop-digit-init : goal.loop-digit-init
loop-digit-init c = record { number = refl; digits = refl }
