use Rattle.std.proofs.Common.{length, ◌-◌, ◌≡◌, ◌≤◌, ◌+◌, true, drop, take}
use Rattle.std.specs.Char.{is_digit}
use Rattle.std.specs.List.{list_all, prefix_len}
use Rattle.hesc_grammars.proofs.style_strings.leading_digits.Given as goal

-- so far there were digits alone, and the others are those at the front of the rest
abbrev pub invariant-loop-count : goal.invariant-loop-count
invariant-loop-count l = record {
  within : l.count ≤ length l.first_six;
  digits : list_all (λ d. is_digit d 16) (take l.count l.first_six) ≡ true;
  counted : prefix_len (λ d. is_digit d 16) l.first_six ≡ l.count + prefix_len (λ d. is_digit d 16) (drop l.count l.first_six);
}

abbrev pub decreases-loop-count : goal.decreases-loop-count
decreases-loop-count l = length l.first_six - l.count
