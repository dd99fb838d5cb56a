-- How much longer an HTML encoding is than its text, byte by byte.
use Rattle.std.proofs.Common.{◌≡◌, ◌≢◌, ℕ, ◌+◌, ◌-◌, ◌<◌, true, ◌==◌, List, [], ◌∷◌, length, map, Option, IfSome, refl, subst, sym, arith}
use Rattle.std.proofs.lemmas.Bool.{agree_below}
use Rattle.std.proofs.lemmas.List.{length-append}
use Rattle.std.proofs.lemmas.List.Sums.{sum_by-cons}
use Rattle.std.specs.List.{sum_by}
use Rattle.std.specs.Simd.Lanes.{Each1}
use Rattle.hesc_specs.specs.Text.Classes.{IsHtml}
use Rattle.hesc_specs.specs.Html.{encoding, image}
use Rattle.hesc_specs.specs.declared.classes.Class.{Class}
use Rattle.hesc_specs.specs.declared.classes.Class.TheVariants.{TextMinimal, Text, DoubleQuotedAttribute, SingleQuotedAttribute, QuotedAttribute, Safe, UnquotedAttribute, ScriptSingleQuoted, ScriptDoubleQuoted, ScriptQuoted, StyleSingleQuoted, StyleDoubleQuoted, StyleQuoted}
use Rattle.hesc_specs.proofs.Text.SomeImages.{some-image}
use Rattle.hesc_scan.specs.Entries.{added_to, table_of}
use Rattle.hesc_scan.proofs.LaneMaps.{are_few, same_lanes}

-- how much longer the image of a byte is
abbrev pub added_length : Class → ℕ → ℕ
added_length class b = length (image class b) - 1

pub few_added : (class : Class) → IsHtml class → are_few (added_length class) ≡ true
few_added TextMinimal html = refl
few_added Text html = refl
few_added DoubleQuotedAttribute html = refl
few_added SingleQuotedAttribute html = refl
few_added QuotedAttribute html = refl
few_added Safe html = refl
few_added UnquotedAttribute html = refl
few_added ScriptSingleQuoted html = cc
few_added ScriptDoubleQuoted html = cc
few_added ScriptQuoted html = cc
few_added StyleSingleQuoted html = cc
few_added StyleDoubleQuoted html = cc
few_added StyleQuoted html = cc

-- what is added to a byte by its entry is what its class adds to it
entries_add : (class : Class) → IsHtml class → class ≢ UnquotedAttribute → agree_below (λ b. added_to (table_of class) b == added_length class b) (λ _. true) 256 ≡ true
entries_add TextMinimal html quoted = refl
entries_add Text html quoted = refl
entries_add DoubleQuotedAttribute html quoted = refl
entries_add SingleQuotedAttribute html quoted = refl
entries_add QuotedAttribute html quoted = refl
entries_add Safe html quoted = refl
entries_add UnquotedAttribute html quoted = absurd (quoted refl)
entries_add ScriptSingleQuoted html quoted = cc
entries_add ScriptDoubleQuoted html quoted = cc
entries_add ScriptQuoted html quoted = cc
entries_add StyleSingleQuoted html quoted = cc
entries_add StyleDoubleQuoted html quoted = cc
entries_add StyleQuoted html quoted = cc

pub added_by_entries : (class : Class) → IsHtml class → class ≢ UnquotedAttribute → (v : List ℕ) → Each1 (λ b. b < 256) v → map (added_to (table_of class)) v ≡ map (added_length class) v
added_by_entries class html quoted v below = same_lanes (added_to (table_of class)) (added_length class) v below (entries_add class html quoted)

pub length-encoding : (class : Class) (bytes : List ℕ) → length (encoding class bytes) ≡ length bytes + sum_by (added_length class) bytes
length-encoding class [] = refl
length-encoding class (b ∷ bytes) =
    omega (arith, length-append (image class b) (encoding class bytes), some-image class b, length-encoding class bytes, sum_by-cons (added_length class) b bytes)

pub as_encoding : (class : Class) (bytes : List ℕ) (r : Option ℕ) → IfSome r (λ count. count ≡ length bytes + sum_by (added_length class) bytes) → IfSome r (λ count. count ≡ length (encoding class bytes))
as_encoding class bytes r = subst (λ n. IfSome r (λ count. count ≡ n)) (sym (length-encoding class bytes))
