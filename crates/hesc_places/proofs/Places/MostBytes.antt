-- How long an enclosed text is at most, by what is written for the text alone.
use Rattle.std.proofs.Common.{ℕ, ◌+◌, ◌≤◌, List, length, arith, length-append}
use Rattle.html_escape.specs.Encoders.{encoded}
use Rattle.html_escape.specs.declared.encoder.Encoder.{Encoder}
use Rattle.hesc_grammars.specs.declared.place.Place.{Place}
use Rattle.hesc_grammars.specs.declared.place.Place.TheVariants.{Text}
use Rattle.hesc_places.specs.Places.Enclosed.{enclosed}
use Rattle.hesc_places.specs.Places.Marks.{closing, opening}

-- the longest are those of a script
few_marks : (place : Place) → length (opening place) + length (closing place) ≤ 17
few_marks Text = omega arith
few_marks other = omega arith

pub most_enclosed : (encoder : Encoder) (place : Place) (text : List ℕ) (most : ℕ) → length (encoded encoder text) ≤ most → length (enclosed encoder place text) ≤ most + 17
most_enclosed encoder place text most short =
    rw (length-append, length-append) (omega (arith, short, few_marks place))
