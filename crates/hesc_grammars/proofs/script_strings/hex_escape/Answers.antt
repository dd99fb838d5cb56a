use Rattle.std.proofs.Common.{ℕ, ◌≡◌, ◌≤◌, ◌^◌, true, List, Some, None, if◌then◌else◌, take, length, length-take, arith}
use Rattle.std.specs.Char.{is_digit}
use Rattle.std.specs.Int.{is_in_range}
use Rattle.std.specs.List.{list_all}
use Rattle.std.specs.Str.Parse.{digits_value}
use Rattle.std.proofs.Math.Nat.{pow-le-pow_right}
use Rattle.std.proofs.lemmas.Bool.Decides.{nat_tests}
use Rattle.hesc_grammars.specs.declared.step.Step.TheVariants.{Nothing}
use Rattle.hesc_grammars.specs.ScriptStrings.{hex_escape}
use Rattle.hesc_grammars.proofs.script_strings.hex_escape.Goals as goal

-- a surrogate is nothing
surrogate : (count number : ℕ) (digits : List ℕ) → is_in_range 0xD800 0xDFFF number ≡ true →
    Some number ≡ (if list_all (λ d. is_digit d 16) digits then Some (digits_value 16 digits) else None) →
    Nothing ≡ hex_escape count digits
surrogate count number digits in_range is = grind (arith, nat_tests)

pub returns-in-None : goal.returns-in-None
returns-in-None c =
    let digits : List ℕ = take c.args.count c.args.bytes.now in
    let four : 16 ^ length digits ≤ 0x10000 =
    pow-le-pow_right {n = 16} (omega arith) {i = length digits} {j = 4} (omega (arith, length-take c.args.count c.args.bytes.now, c.requires)) in
    let in_range : is_in_range 0xD800 0xDFFF c.in-Some.number ≡ true =
    grind (arith, nat_tests, four, c.in-None.ensures.cases, c.in-Some.ensures.bound) in
    surrogate c.args.count c.in-Some.number digits in_range c.in-Some.ensures.value
