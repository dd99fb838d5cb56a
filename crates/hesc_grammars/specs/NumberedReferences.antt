-- References by numbers, after the marks of their base.
use Rattle.std.specs.Prelude.{ℕ, ◌+◌, List, ◌==◌, take, Option, Some, None}
use Rattle.std.specs.List.{position_from}
use Rattle.hesc_specs.specs.Text.Ascii.{semicolon}
use Rattle.hesc_grammars.specs.References.{character_or_nothing, digits_character}
use Rattle.hesc_grammars.specs.declared.step.Step.{Step}
use Rattle.hesc_grammars.specs.declared.step.Step.TheVariants.{Nothing}

-- what a `&` and so many marks begin, where so many digits of the base and a `;` follow them
abbrev pub number_of_length : ℕ → ℕ → Option ℕ → List ℕ → Step
number_of_length base marks None bytes = Nothing
number_of_length base marks (Some count) bytes =
    character_or_nothing (marks + count + 1) (digits_character base (take count bytes))

-- what a `&`, so many marks and the bytes begin: the digits go up to the first `;`
abbrev pub numbered_reference : ℕ → ℕ → List ℕ → Step
numbered_reference base marks bytes =
    number_of_length base marks (position_from (λ b. b == semicolon) 0 bytes) bytes
