-- The tables of entries agree with the classes.
use Rattle.std.proofs.Common.{◌≡◌, ◌≢◌, ℕ, ◌+◌, ◌<◌, true, List, refl, map}
use Rattle.std.proofs.lemmas.Bool.{agree_below}
use Rattle.std.specs.Prelude.{slice_index}
use Rattle.std.specs.Simd.Lanes.{Each1, mask_l}
use Rattle.hesc_specs.specs.Text.Classes.{in_class, IsHtml}
use Rattle.hesc_specs.specs.declared.classes.Class.{Class}
use Rattle.hesc_specs.specs.declared.classes.Class.TheVariants.{TextMinimal, Text, DoubleQuotedAttribute, SingleQuotedAttribute, QuotedAttribute, Safe, UnquotedAttribute, ScriptSingleQuoted, ScriptDoubleQuoted, ScriptQuoted, StyleSingleQuoted, StyleDoubleQuoted, StyleQuoted}
use Rattle.hesc_scan.specs.Entries.{is_entry, table_of}
use Rattle.hesc_scan.proofs.LaneLemmas.{mask_as_class}
use Rattle.hesc_scan.proofs.Lookups.{stands_twice}

pub table_stands_twice : (class : Class) → (nibble : ℕ) → nibble < 16 → slice_index (table_of class) (16 + nibble) ≡ slice_index (table_of class) nibble
table_stands_twice TextMinimal = stands_twice (table_of TextMinimal) refl
table_stands_twice Text = stands_twice (table_of Text) refl
table_stands_twice DoubleQuotedAttribute = stands_twice (table_of DoubleQuotedAttribute) refl
table_stands_twice SingleQuotedAttribute = stands_twice (table_of SingleQuotedAttribute) refl
table_stands_twice QuotedAttribute = stands_twice (table_of QuotedAttribute) refl
table_stands_twice other = stands_twice (table_of Safe) refl

agrees : (class : Class) → IsHtml class → class ≢ UnquotedAttribute → agree_below (is_entry (table_of class)) (in_class class) 256 ≡ true
agrees TextMinimal html quoted = refl
agrees Text html quoted = refl
agrees DoubleQuotedAttribute html quoted = refl
agrees SingleQuotedAttribute html quoted = refl
agrees QuotedAttribute html quoted = refl
agrees Safe html quoted = refl
agrees UnquotedAttribute html quoted = absurd (quoted refl)
agrees ScriptSingleQuoted html quoted = cc
agrees ScriptDoubleQuoted html quoted = cc
agrees ScriptQuoted html quoted = cc
agrees StyleSingleQuoted html quoted = cc
agrees StyleDoubleQuoted html quoted = cc
agrees StyleQuoted html quoted = cc

-- the mask by the table of a class
pub mask_by_table : (class : Class) → IsHtml class → class ≢ UnquotedAttribute → (v : List ℕ) (mask : ℕ) → Each1 (λ b. b < 256) v → mask ≡ mask_l (map (is_entry (table_of class)) v)
    → mask ≡ mask_l (map (in_class class) v)
mask_by_table class html quoted v mask below = mask_as_class class (is_entry (table_of class)) v mask below (agrees class html quoted)
