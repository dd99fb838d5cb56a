use Rattle.std.proofs.Common.{◌++◌, ◌∷◌, ◌∙◌, [], inl, inr, refl, sym, ap, take, encode_utf8, arith}
use Rattle.std.specs.Option.{option_map}
use Rattle.hesc_grammars.specs.Places.{end_of}
use Rattle.hesc_grammars.proofs.ReadingTurns.{ends, knows_nothing, lacks_byte, lacks_character, goes_past_byte, goes_past_character, goes_past_stretch}
use Rattle.hesc_grammars.proofs.reading.end_of_place.Goals as goal

pub returns-in-Close : goal.returns-in-Close
returns-in-Close c =
    ap (option_map end_of) (ends (goes_past_stretch c.reading.invariant.1 c.stretch.ensures.stays refl refl c.split_at.ensures.back) c.in-Close.ensures)

pub returns-in-Nothing : goal.returns-in-Nothing
returns-in-Nothing c =
    ap (option_map end_of) (knows_nothing (goes_past_stretch c.reading.invariant.1 c.stretch.ensures.stays refl refl c.split_at.ensures.back) c.in-Nothing.ensures)

pub returns-then-more-rest : goal.returns-then-more-rest
returns-then-more-rest c =
    let follows = goes_past_stretch c.reading.invariant.1 c.stretch.ensures.stays refl refl c.split_at.ensures.back in
    ap (option_map end_of) (elim c.in-Byte.is [
      | inl byte ↦ lacks_byte follows (sym byte.1 ∙ c.step_of.ensures) c.if-more-rest.true
      | inr character ↦ lacks_character follows (sym character.1 ∙ c.step_of.ensures) c.if-more-rest.true
    ])

pub reading-preserved : goal.reading-preserved
reading-preserved c =
    let value = c.reading.invariant.0 ++ take c.stretch.result c.reading.rest.now in
    let follows = goes_past_stretch c.reading.invariant.1 c.stretch.ensures.stays refl refl c.split_at.ensures.back in
    elim c.in-Byte.is [
      | inl byte ↦ (value ++ byte.0 ∷ [], goes_past_byte follows (sym byte.1 ∙ c.step_of.ensures) (omega arith) refl c.split_at-in-Byte.ensures.back)
      | inr character ↦ (
        value ++ encode_utf8 character.0,
        goes_past_character follows (sym character.1 ∙ c.step_of.ensures) (omega arith) refl c.split_at-in-Byte.ensures.back,
      )
    ]
