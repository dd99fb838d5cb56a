use Rattle.std.proofs.Common.{◌≡◌, true, take}
use Rattle.std.specs.Char.{is_digit}
use Rattle.std.specs.List.{list_all}
use Rattle.std.specs.Str.Parse.{digits_value}
use Rattle.hesc_specs.specs.References.Numbers.{base_of, capped}
use Rattle.hesc_grammars.proofs.references.numbered_reference.Given as goal

-- so far there were digits alone, and the number is theirs
abbrev pub invariant-loop-count : goal.invariant-loop-count
invariant-loop-count l = record {
  number : l.number ≡ capped (digits_value (base_of l.is_hex) (take l.count l.bytes));
  digits : list_all (λ d. is_digit d (base_of l.is_hex)) (take l.count l.bytes) ≡ true;
}
