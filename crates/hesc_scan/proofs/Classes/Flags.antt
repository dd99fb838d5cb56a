-- The table of flags against the classes: each of the 256 bytes, computed.
use Rattle.std.proofs.Common.{◌≡◌, ℕ, ◌/◌, ◌^◌, ◌<◌, Bool, true, not, nat_eq, get_or, bit_and, refl}
use Rattle.std.proofs.lemmas.Bool.{agree_below, agree_below_at}
use Rattle.std.specs.Int.{bit_at}
use Rattle.hesc_specs.specs.Text.Classes.{in_class}
use Rattle.hesc_specs.specs.declared.classes.Class.{Class}
use Rattle.hesc_specs.specs.declared.classes.Class.TheVariants.{TextMinimal, Text, DoubleQuotedAttribute, SingleQuotedAttribute, QuotedAttribute, Safe, UnquotedAttribute, ScriptSingleQuoted, ScriptDoubleQuoted, ScriptQuoted, StyleSingleQuoted, StyleDoubleQuoted, StyleQuoted}
use Rattle.hesc_scan.specs.ClassNumbers.{class_number}
use Rattle.hesc_scan.specs.declared.flags.TheConstants.{FLAGS}

-- the flag as a program reads it
abbrev pub is_flagged : ℕ → ℕ → Bool
is_flagged number b = not (nat_eq (bit_and (get_or FLAGS b 0 / 2 ^ number) 1) 0)

abbrev pub has_bit : ℕ → ℕ → Bool
has_bit number b = nat_eq (bit_at (get_or FLAGS b 0) number) 1

flagged : (class : Class) → agree_below (is_flagged (class_number class)) (in_class class) 256 ≡ true
flagged TextMinimal = refl
flagged Text = refl
flagged DoubleQuotedAttribute = refl
flagged SingleQuotedAttribute = refl
flagged QuotedAttribute = refl
flagged Safe = refl
flagged UnquotedAttribute = refl
flagged ScriptSingleQuoted = refl
flagged ScriptDoubleQuoted = refl
flagged ScriptQuoted = refl
flagged StyleSingleQuoted = refl
flagged StyleDoubleQuoted = refl
flagged StyleQuoted = refl

one_bit : (class : Class) → agree_below (has_bit (class_number class)) (in_class class) 256 ≡ true
one_bit TextMinimal = refl
one_bit Text = refl
one_bit DoubleQuotedAttribute = refl
one_bit SingleQuotedAttribute = refl
one_bit QuotedAttribute = refl
one_bit Safe = refl
one_bit UnquotedAttribute = refl
one_bit ScriptSingleQuoted = refl
one_bit ScriptDoubleQuoted = refl
one_bit ScriptQuoted = refl
one_bit StyleSingleQuoted = refl
one_bit StyleDoubleQuoted = refl
one_bit StyleQuoted = refl

pub flag_tells : (class : Class) (b : ℕ) → b < 256 → is_flagged (class_number class) b ≡ in_class class b
flag_tells class b lt = agree_below_at (is_flagged (class_number class)) (in_class class) 256 b (flagged class) lt

pub bit_tells : (class : Class) (b : ℕ) → b < 256 → has_bit (class_number class) b ≡ in_class class b
bit_tells class b lt = agree_below_at (has_bit (class_number class)) (in_class class) 256 b (one_bit class) lt
