-- The law of places, pair by pair from the laws of the grammars.
use Rattle.std.proofs.Common.{ℕ, ◌≡◌, true, List, ◌++◌, Some, IsUtf8, length, refl}
use Rattle.hesc_specs.specs.Text.Ascii.{double_quote, single_quote, less_than}
use Rattle.hesc_specs.specs.declared.classes.Class.TheVariants as class
use Rattle.hesc_specs.specs.declared.elements.Element.TheVariants as element
use Rattle.hesc_specs.specs.declared.quotes.Quotes.TheVariants.{Single, Double, Both}
use Rattle.html_escape.specs.declared.encoder.Encoder.{Encoder}
use Rattle.html_escape.specs.declared.encoder.Encoder.TheVariants as encoder
use Rattle.html_escape.specs.Encoders.{encoded}
use Rattle.hesc_grammars.specs.declared.place.Place.{Place}
use Rattle.hesc_grammars.specs.declared.place.Place.TheVariants.{Text, DoubleAttribute, SingleAttribute, UnquotedAttribute, ScriptSingle, ScriptDouble, StyleSingle, StyleDouble, ScriptBody, StyleBody}
use Rattle.hesc_places.specs.Places.Marks.{closing}
use Rattle.hesc_grammars.specs.Places.{reading}
use Rattle.hesc_places.specs.Places.Suits.{suits, MayHold}
use Rattle.hesc_places.specs.Places.ReadBack.{read_back}
use Rattle.hesc_places.proofs.Places.Bodies.{read_before_tag}
use Rattle.hesc_places.proofs.Places.Marked.{marked_text, marked_nul}
use Rattle.hesc_places.proofs.Places.ScriptStrings.{script_string_reading}
use Rattle.hesc_places.proofs.Places.StyleStrings.{style_string_reading}
use Rattle.hesc_places.proofs.Places.Unquoted.{unquoted_nul}

-- what the encoder writes ends exactly at the closing mark, and is read back
abbrev pub IsReadBack : Encoder → Place → List ℕ → List ℕ → Type 0
IsReadBack encoder place text rest =
    reading place (encoded encoder text ++ (closing place ++ rest)) ≡
    Some (read_back encoder text, length (encoded encoder text))

-- what a class and a mark have to have holds by computation
pub is_read_back : (encoder : Encoder) (place : Place) → suits encoder place ≡ true →
    (text rest : List ℕ) → IsUtf8 text → MayHold place text → IsReadBack encoder place text rest
is_read_back encoder.TextMinimal Text suit text rest utf8 full =
    marked_text class.TextMinimal less_than (refl, (refl, refl)) refl text rest
is_read_back encoder.Text Text suit text rest utf8 full =
    marked_text class.Text less_than (refl, (refl, refl)) refl text rest
is_read_back encoder.DoubleQuotedAttribute Text suit text rest utf8 full =
    marked_text class.DoubleQuotedAttribute less_than (refl, (refl, refl)) refl text rest
is_read_back encoder.SingleQuotedAttribute Text suit text rest utf8 full =
    marked_text class.SingleQuotedAttribute less_than (refl, (refl, refl)) refl text rest
is_read_back encoder.QuotedAttribute Text suit text rest utf8 full =
    marked_text class.QuotedAttribute less_than (refl, (refl, refl)) refl text rest
is_read_back encoder.Safe Text suit text rest utf8 full =
    marked_text class.Safe less_than (refl, (refl, refl)) refl text rest
is_read_back encoder.UnquotedAttribute Text suit text rest utf8 full =
    marked_nul class.UnquotedAttribute less_than (refl, (refl, refl)) refl text rest
is_read_back encoder.DoubleQuotedAttribute DoubleAttribute suit text rest utf8 full =
    marked_text class.DoubleQuotedAttribute double_quote (refl, (refl, refl)) refl text rest
is_read_back encoder.QuotedAttribute DoubleAttribute suit text rest utf8 full =
    marked_text class.QuotedAttribute double_quote (refl, (refl, refl)) refl text rest
is_read_back encoder.Safe DoubleAttribute suit text rest utf8 full =
    marked_text class.Safe double_quote (refl, (refl, refl)) refl text rest
is_read_back encoder.UnquotedAttribute DoubleAttribute suit text rest utf8 full =
    marked_nul class.UnquotedAttribute double_quote (refl, (refl, refl)) refl text rest
is_read_back encoder.SingleQuotedAttribute SingleAttribute suit text rest utf8 full =
    marked_text class.SingleQuotedAttribute single_quote (refl, (refl, refl)) refl text rest
is_read_back encoder.QuotedAttribute SingleAttribute suit text rest utf8 full =
    marked_text class.QuotedAttribute single_quote (refl, (refl, refl)) refl text rest
is_read_back encoder.Safe SingleAttribute suit text rest utf8 full =
    marked_text class.Safe single_quote (refl, (refl, refl)) refl text rest
is_read_back encoder.UnquotedAttribute SingleAttribute suit text rest utf8 full =
    marked_nul class.UnquotedAttribute single_quote (refl, (refl, refl)) refl text rest
is_read_back encoder.UnquotedAttribute (UnquotedAttribute end) suit text rest utf8 full =
    unquoted_nul end text rest full
is_read_back encoder.ScriptSingleQuoted ScriptSingle suit text rest utf8 full =
    script_string_reading Single single_quote refl text rest utf8
is_read_back encoder.ScriptQuoted ScriptSingle suit text rest utf8 full =
    script_string_reading Both single_quote refl text rest utf8
is_read_back encoder.ScriptDoubleQuoted ScriptDouble suit text rest utf8 full =
    script_string_reading Double double_quote refl text rest utf8
is_read_back encoder.ScriptQuoted ScriptDouble suit text rest utf8 full =
    script_string_reading Both double_quote refl text rest utf8
is_read_back encoder.StyleSingleQuoted StyleSingle suit text rest utf8 full =
    style_string_reading Single single_quote refl text rest utf8
is_read_back encoder.StyleQuoted StyleSingle suit text rest utf8 full =
    style_string_reading Both single_quote refl text rest utf8
is_read_back encoder.StyleDoubleQuoted StyleDouble suit text rest utf8 full =
    style_string_reading Double double_quote refl text rest utf8
is_read_back encoder.StyleQuoted StyleDouble suit text rest utf8 full =
    style_string_reading Both double_quote refl text rest utf8
is_read_back encoder.Script ScriptBody suit text rest utf8 full = read_before_tag element.Script text (closing ScriptBody ++ rest) refl
is_read_back encoder.Style StyleBody suit text rest utf8 full = read_before_tag element.Style text (closing StyleBody ++ rest) refl
is_read_back other elsewhere suit text rest utf8 full = cc
