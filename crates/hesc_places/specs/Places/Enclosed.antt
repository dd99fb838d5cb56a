-- A text between the marks of a place: its bytes, what they are read as, and when there are none.
use Rattle.std.specs.Prelude.{◌≡◌, ◌↔◌, ℕ, List, [], ◌++◌, Result, Some, IsErrOf, IsTrue, false, drop, length}
use Rattle.html_escape.specs.declared.encoder.Encoder.{Encoder}
use Rattle.html_escape.specs.Encoders.{encoded}
use Rattle.hesc_places.specs.declared.place.enclosing.PlaceFault.{PlaceFault}
use Rattle.hesc_places.specs.declared.place.enclosing.PlaceFault.TheVariants.{NotForPlace, EmptyUnquoted}
use Rattle.hesc_grammars.specs.declared.place.Place.{Place}
use Rattle.hesc_grammars.specs.declared.place.Place.TheVariants.{UnquotedAttribute}
use Rattle.hesc_places.specs.Places.Marks.{opening, closing}
use Rattle.hesc_grammars.specs.Places.{reading}
use Rattle.hesc_places.specs.Places.ReadBack.{read_back}
use Rattle.hesc_places.specs.Places.Suits.{suits}

-- the opening mark, what the encoder writes for the text, and the closing mark
abbrev pub enclosed : Encoder → Place → List ℕ → List ℕ
enclosed encoder place text = opening place ++ (encoded encoder text ++ closing place)

-- after its opening mark and whatever follows, the part ends exactly at its closing mark and is read as the text
abbrev pub IsReadAsText : Encoder → Place → List ℕ → List ℕ → Type 0
IsReadAsText encoder place text part =
    (rest : List ℕ) → reading place (drop (length (opening place)) part ++ rest) ≡
    Some (read_back encoder text, length (encoded encoder text))

-- an unquoted value that is empty
abbrev pub IsEmptyUnquoted : Place → List ℕ → Type 0
IsEmptyUnquoted (UnquotedAttribute end) text = text ≡ []
IsEmptyUnquoted other text = ⊥

-- each fault is answered exactly where it is the first that applies
pub record AnswersFirstFault {T : Type 0} (encoder : Encoder) (place : Place) (text : List ℕ) (result : Result T PlaceFault) : Type 0 where
  pub not_for_place : IsErrOf result NotForPlace ↔ (suits encoder place ≡ false)
  pub empty_unquoted : IsErrOf result EmptyUnquoted ↔ (IsTrue (suits encoder place) × IsEmptyUnquoted place text)
