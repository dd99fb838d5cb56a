use Rattle.std.proofs.Common.{◌≡◌, ◌∙◌, ℕ, List, Option, Some, None, sym, arith}
use Rattle.std.proofs.lemmas.Bool.Decides.{nat_tests}
use Rattle.std.specs.Option.{option_map}
use Rattle.hesc_specs.specs.References.Decoding.{number_or_name, numbered_value}
use Rattle.hesc_specs.specs.References.Numbers.{capped}
use Rattle.hesc_core.proofs.rules.references.values.value_of_body.Goals as goal

capped_value : (n : ℕ) → numbered_value (capped n) ≡ numbered_value n
capped_value n = grind (arith, nat_tests)

-- the value of a number that was found, whatever names there are
of_number : (found : Option ℕ) (number : ℕ) (named : Option (List ℕ)) → Some number ≡ option_map capped found → numbered_value number ≡ number_or_name found named
of_number None number named is = absurd (cc is)
of_number (Some n) number named is = let same : number ≡ capped n = cc is in rw same (capped_value n)

pub returns-in-Some : goal.returns-in-Some
returns-in-Some c = c.character.ensures ∙ of_number _ _ _ (sym c.in-Some.is ∙ c.number_of.ensures)
