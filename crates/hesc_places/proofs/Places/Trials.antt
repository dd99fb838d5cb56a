-- An encoder passes the trial of a place exactly if it suits it: a table of all pairs, by computation.
use Rattle.std.proofs.Common.{ℕ, ◌≡◌, eq-eqb, Bool, true, false, true≢false, ◌&&◌, List, ◌++◌, ◌==◌, Option, Some, None, length, bytes_eq, refl, sym, ◌∙◌}
use Rattle.std.specs.Str.{chars}
use Rattle.std.proofs.Math.Utf8.{encode}
use Rattle.std.proofs.lemmas.Slice.Eq.{bytes_eq-Decides}
use Rattle.html_escape.specs.declared.encoder.Encoder.{Encoder}
use Rattle.html_escape.specs.declared.encoder.Encoder.TheVariants as encoder
use Rattle.html_escape.specs.Encoders.{encoded}
use Rattle.hesc_grammars.specs.declared.place.End.TheVariants.{Tab}
use Rattle.hesc_grammars.specs.declared.place.Place.{Place}
use Rattle.hesc_grammars.specs.declared.place.Place.TheVariants as place
use Rattle.hesc_grammars.specs.Bodies.{script_body_step, style_body_step}
use Rattle.hesc_grammars.specs.Html.{marked_step, unquoted_step}
use Rattle.hesc_places.specs.Places.Marks.{closing}
use Rattle.hesc_grammars.specs.Places.{reading}
use Rattle.hesc_grammars.specs.ScriptStrings.{script_string_step}
use Rattle.hesc_grammars.specs.StyleStrings.{style_string_step}
use Rattle.hesc_places.specs.Places.Suits.{suits}
use Rattle.hesc_places.specs.Places.Trials.{trial, trial_value, PassesTrial}

bytes_eq-same : (bytes : List ℕ) → bytes_eq bytes bytes ≡ true
bytes_eq-same bytes = (bytes_eq-Decides bytes bytes).1 refl

-- a reading is that of this value and this end
is_that : Option (List ℕ × ℕ) → List ℕ → ℕ → Bool
is_that None value end = false
is_that (Some found) value end = bytes_eq found.0 value && found.1 == end

passes : Encoder → Place → Bool
passes e p = is_that (reading p (encoded e (trial p) ++ closing p)) (trial_value p) (length (encoded e (trial p)))

-- the clauses of one ending make the last one be checked at each pair by itself
trial_decides : (e : Encoder) (p : Place) → passes e p ≡ suits e p
unfolding is_that passes marked_step unquoted_step script_string_step style_string_step script_body_step style_body_step encode chars
trial_decides encoder.TextMinimal (place.UnquotedAttribute Tab) = refl
trial_decides encoder.Text (place.UnquotedAttribute Tab) = refl
trial_decides encoder.DoubleQuotedAttribute (place.UnquotedAttribute Tab) = refl
trial_decides encoder.SingleQuotedAttribute (place.UnquotedAttribute Tab) = refl
trial_decides encoder.QuotedAttribute (place.UnquotedAttribute Tab) = refl
trial_decides encoder.Safe (place.UnquotedAttribute Tab) = refl
trial_decides encoder.UnquotedAttribute (place.UnquotedAttribute Tab) = refl
trial_decides encoder.Script (place.UnquotedAttribute Tab) = refl
trial_decides encoder.Style (place.UnquotedAttribute Tab) = refl
trial_decides encoder.ScriptSingleQuoted (place.UnquotedAttribute Tab) = refl
trial_decides encoder.ScriptDoubleQuoted (place.UnquotedAttribute Tab) = refl
trial_decides encoder.ScriptQuoted (place.UnquotedAttribute Tab) = refl
trial_decides encoder.StyleSingleQuoted (place.UnquotedAttribute Tab) = refl
trial_decides encoder.StyleDoubleQuoted (place.UnquotedAttribute Tab) = refl
trial_decides encoder.StyleQuoted (place.UnquotedAttribute Tab) = refl
trial_decides other elsewhere = refl

pub no_other_passes : (e : Encoder) (p : Place) → suits e p ≡ false → PassesTrial e p → ⊥
unfolding is_that passes
no_other_passes e p other same =
    let itself : passes e p ≡ true = rw (same, bytes_eq-same (trial_value p), eq-eqb (length (encoded e (trial p))) (length (encoded e (trial p))) refl) refl in
    absurd (true≢false (sym itself ∙ (trial_decides e p ∙ other)))
