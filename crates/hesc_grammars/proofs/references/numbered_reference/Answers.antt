use Rattle.std.proofs.Common.{◌≡◌, ◌==◌, ◌∙◌, true, false, take, slice_index, refl, sym, ap, arith, eq-eqb, ne_eqb}
use Rattle.std.proofs.lemmas.Bool.Decides.{nat_tests}
use Rattle.std.proofs.lemmas.Grind.{common_steps}
use Rattle.std.proofs.lemmas.Int.Digits.{digits_value_more}
use Rattle.std.proofs.lemmas.List.{take_all}
use Rattle.std.specs.Char.{digit_value, is_digit}
use Rattle.std.specs.List.{list_all}
use Rattle.std.specs.Str.Parse.{digits_value}
use Rattle.hesc_specs.specs.References.Numbers.{base_of}
use Rattle.hesc_specs.specs.Text.Ascii.{semicolon}
use Rattle.hesc_specs.proofs.References.Capped.{capped-digit}
use Rattle.hesc_grammars.proofs.ReferenceBodies.{numbered_reference-stops, numbered_reference-empty, numbered_reference-ends, numbered_reference-unended}
use Rattle.hesc_grammars.proofs.references.numbered_reference.Goals as goal
use Rattle.hesc_grammars.proofs.references.numbered_reference.Goals.{then-byte-ne59-via-then-byte-ne59, then-byte-ne59-via-else-byte-ne59+then-count-eq0}

pub returns-then-byte-ne59 : goal.returns-then-byte-ne59
returns-then-byte-ne59 c =
    let bytes = c.args.bytes.now in
    let count = c.loop-count.count in
    let none : is_digit (slice_index bytes count) (base_of c.args.is_hex) ≡ false = grind (arith, nat_tests) in
    elim c.then-byte-ne59.branch [
      | then-byte-ne59-via-then-byte-ne59 w ↦
          let goes_on : (slice_index bytes count == semicolon) ≡ false = ne_eqb (slice_index bytes count) semicolon w.if-byte-ne59.true in
          sym (numbered_reference-stops c.args.is_hex c.args.mark_count count bytes c.loop-count.invariant.digits (omega arith) none goes_on)
      | then-byte-ne59-via-else-byte-ne59+then-count-eq0 w ↦
          let ends : (slice_index bytes 0 == semicolon) ≡ true = eq-eqb (slice_index bytes 0) semicolon (ap (slice_index bytes) (sym w.if-count-eq0.true) ∙ w.if-byte-ne59.false) in
          sym (numbered_reference-empty c.args.is_hex c.args.mark_count bytes (omega arith) ends)
    ]

pub returns-in-Some-numbered_character : goal.returns-in-Some-numbered_character
returns-in-Some-numbered_character c =
    let bytes = c.args.bytes.now in
    let count = c.loop-count.count in
    let ends : (slice_index bytes count == semicolon) ≡ true = eq-eqb (slice_index bytes count) semicolon c.if-byte-ne59.false in
    rw (
      numbered_reference-ends c.args.is_hex c.args.mark_count count bytes c.loop-count.invariant.digits (omega arith) (omega arith) ends,
      sym c.loop-count.invariant.number,
      sym c.in-Some-numbered_character.ensures,
    ) refl

pub returns-in-None : goal.returns-in-None
returns-in-None c =
    let bytes = c.args.bytes.now in
    let count = c.loop-count.count in
    let ends : (slice_index bytes count == semicolon) ≡ true = eq-eqb (slice_index bytes count) semicolon c.if-byte-ne59.false in
    rw (
      numbered_reference-ends c.args.is_hex c.args.mark_count count bytes c.loop-count.invariant.digits (omega arith) (omega arith) ends,
      sym c.loop-count.invariant.number,
      sym c.in-None.ensures,
    ) refl

pub loop-count-preserved : goal.loop-count-preserved
loop-count-preserved c =
    let base = base_of c.args.is_hex in
    let byte = slice_index c.args.bytes.now c.loop-count.count in
    let more = digits_value_more base c.args.bytes.now c.loop-count.count c.loop-count-test.true in
    let held = capped-digit c.args.is_hex (digits_value base (take c.loop-count.count c.args.bytes.now)) c.in-Some.digit in
    let value : c.in-Some.digit ≡ digit_value byte = grind arith in
    let one_more : is_digit byte base ≡ true = grind arith in
    record {
      number = cc (held, more, c.with_digit-number.ensures, c.loop-count.invariant.number, value);
      digits = grind (arith, common_steps, one_more);
    }

pub returns : goal.returns
returns c =
    let bytes = c.args.bytes.now in
    let digits : list_all (λ d. is_digit d (base_of c.args.is_hex)) bytes ≡ true =
    rw (take_all c.loop-count.count bytes (omega arith)) at c.loop-count.invariant.digits in
    sym (numbered_reference-unended c.args.is_hex c.args.mark_count bytes digits)
