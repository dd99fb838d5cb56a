-- How much longer a string encoding is than its text at most, byte by byte.
use Rattle.std.proofs.Common.{◌≡◌, ◌≢◌, ℕ, ◌<◌, true, ◌==◌, List, None, map, refl}
use Rattle.std.proofs.lemmas.Bool.{agree_below}
use Rattle.std.specs.Simd.Lanes.{Each1}
use Rattle.hesc_specs.specs.Text.Classes.{string_class}
use Rattle.hesc_specs.specs.declared.classes.Class.{Class}
use Rattle.hesc_specs.specs.declared.classes.Class.TheVariants.{TextMinimal, Text, DoubleQuotedAttribute, SingleQuotedAttribute, QuotedAttribute, Safe, UnquotedAttribute, ScriptSingleQuoted, ScriptDoubleQuoted, ScriptQuoted, StyleSingleQuoted, StyleDoubleQuoted, StyleQuoted}
use Rattle.hesc_specs.proofs.Strings.Bound.{added_length}
use Rattle.hesc_scan.specs.Groups.{added_to, groups_in}
use Rattle.hesc_scan.proofs.LaneMaps.{are_few, same_lanes}

pub few_added : (class : Class) → string_class class ≢ None → are_few (added_length class) ≡ true
few_added TextMinimal string = absurd (string refl)
few_added Text string = absurd (string refl)
few_added DoubleQuotedAttribute string = absurd (string refl)
few_added SingleQuotedAttribute string = absurd (string refl)
few_added QuotedAttribute string = absurd (string refl)
few_added Safe string = absurd (string refl)
few_added UnquotedAttribute string = absurd (string refl)
few_added ScriptSingleQuoted string = refl
few_added ScriptDoubleQuoted string = refl
few_added ScriptQuoted string = refl
few_added StyleSingleQuoted string = refl
few_added StyleDoubleQuoted string = refl
few_added StyleQuoted string = refl

-- what is added to a byte by its groups is what its class adds to it at most
groups_add : (class : Class) → string_class class ≢ None → agree_below (λ b. added_to (groups_in class) b == added_length class b) (λ _. true) 256 ≡ true
groups_add TextMinimal string = absurd (string refl)
groups_add Text string = absurd (string refl)
groups_add DoubleQuotedAttribute string = absurd (string refl)
groups_add SingleQuotedAttribute string = absurd (string refl)
groups_add QuotedAttribute string = absurd (string refl)
groups_add Safe string = absurd (string refl)
groups_add UnquotedAttribute string = absurd (string refl)
groups_add ScriptSingleQuoted string = refl
groups_add ScriptDoubleQuoted string = refl
groups_add ScriptQuoted string = refl
groups_add StyleSingleQuoted string = refl
groups_add StyleDoubleQuoted string = refl
groups_add StyleQuoted string = refl

pub added_by_groups : (class : Class) → string_class class ≢ None → (v : List ℕ) → Each1 (λ b. b < 256) v → map (added_to (groups_in class)) v ≡ map (added_length class) v
added_by_groups class string v below = same_lanes (added_to (groups_in class)) (added_length class) v below (groups_add class string)
