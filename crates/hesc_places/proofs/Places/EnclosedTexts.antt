-- Enclosed texts are read back, by the law of places.
use Rattle.std.proofs.Common.{ℕ, ◌≡◌, true, List, IsUtf8, ◌++◌, append_assoc}
use Rattle.std.proofs.Math.Seq.{drop-append_seam}
use Rattle.html_escape.specs.declared.encoder.Encoder.{Encoder}
use Rattle.html_escape.specs.Encoders.{encoded}
use Rattle.hesc_grammars.specs.declared.place.Place.{Place}
use Rattle.hesc_places.specs.Places.Enclosed.{enclosed, IsReadAsText}
use Rattle.hesc_places.specs.Places.Marks.{opening, closing}
use Rattle.hesc_places.specs.Places.Suits.{suits, MayHold}
use Rattle.hesc_places.proofs.Places.PlaceLaw.{is_read_back}

pub enclosed_is_read : (encoder : Encoder) (place : Place) → suits encoder place ≡ true →
    (text : List ℕ) → IsUtf8 text → MayHold place text → IsReadAsText encoder place text (enclosed encoder place text)
enclosed_is_read encoder place suit text utf8 full rest =
    rw (
      drop-append_seam (opening place) (encoded encoder text ++ closing place),
      append_assoc (encoded encoder text) (closing place) rest,
    ) (is_read_back encoder place suit text rest utf8 full)
