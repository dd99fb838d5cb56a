use Rattle.std.proofs.Common.{◌≢◌, refl, sym, length, arith, rules}
use Rattle.std.specs.Char.{IsScalar}
use Rattle.std.proofs.lemmas.Str.{IsUtf8-encode}
use Rattle.hesc_grammars.proofs.ReadingTurns.{closes_by_byte, ends, knows_nothing, lacks_byte, lacks_character, goes_past_byte, goes_past_character, goes_past_stretch}
use Rattle.hesc_grammars.proofs.TextItems.{item_of_text}
use Rattle.hesc_grammars.proofs.ReadTexts.{begun, ended, takes_byte, takes_character, takes_stretch}
use Rattle.hesc_grammars.proofs.reading.read_place.Goals as goal

pub reading-init : goal.reading-init
reading-init g c = record {
  follows = search rules;
  text = λ utf8. rw c.new-value.ensures.items (begun c.args.bytes.now utf8);
}

pub returns-in-Close-clause-value : goal.returns-in-Close-clause-value
returns-in-Close-clause-value g c =
    let follows = goes_past_stretch c.reading.invariant.follows c.stretch.ensures.stays c.in_ok-append_last-in-Close.ensures c.split_at.ensures.front c.split_at.ensures.back in
    ends follows c.in-Close.ensures

pub returns-in-Close-clause-within : goal.returns-in-Close-clause-within
returns-in-Close-clause-within g c =
    let full = closes_by_byte c.args.place c.reading.mode c.split_at.result.1.now c.in-Close.ensures in
    omega (arith, full, c.reading.invariant.follows.shorter, c.stretch.ensures.stays.within, c.split_at.ensures.back_len)

pub returns-in-Close-clause-utf8 : goal.returns-in-Close-clause-utf8
returns-in-Close-clause-utf8 g c utf8 =
    let full = closes_by_byte c.args.place c.reading.mode c.split_at.result.1.now c.in-Close.ensures in
    let item = item_of_text c.args.place c.reading.mode c.split_at.result.1.now full in
    let text = takes_stretch c.stretch.ensures.stays.within (c.reading.invariant.text utf8) c.in_ok-append_last-in-Close.ensures c.split_at.ensures.front c.split_at.ensures.back in
    ended _ _ (rw (sym c.in-Close.ensures) at item) text

pub returns-in-Nothing-clause-value : goal.returns-in-Nothing-clause-value
returns-in-Nothing-clause-value g c =
    let follows = goes_past_stretch c.reading.invariant.follows c.stretch.ensures.stays refl c.split_at.ensures.front c.split_at.ensures.back in
    knows_nothing follows c.in-Nothing.ensures

pub returns-then-more-other-clause-value : goal.returns-then-more-other-clause-value
returns-then-more-other-clause-value g c =
    let follows = goes_past_stretch c.reading.invariant.follows c.stretch.ensures.stays refl c.split_at.ensures.front c.split_at.ensures.back in
    lacks_byte follows c.in-Byte.ensures c.if-more-other.true

pub returns-then-more-other-2-clause-value : goal.returns-then-more-other-2-clause-value
returns-then-more-other-2-clause-value g c =
    let follows = goes_past_stretch c.reading.invariant.follows c.stretch.ensures.stays refl c.split_at.ensures.front c.split_at.ensures.back in
    lacks_character follows c.in-Character.ensures c.if-more-other-2.true

pub reading-preserved-in-Byte : goal.reading-preserved-in-Byte
reading-preserved-in-Byte g c =
    let follows = goes_past_stretch c.reading.invariant.follows c.stretch.ensures.stays c.in_ok-append-in-Byte.ensures c.split_at.ensures.front c.split_at.ensures.back in
    let full : length c.split_at.result.1.now ≢ 0 = λ none. omega (arith, none, c.if-more-other.false) in
    let item = item_of_text c.args.place c.reading.mode c.split_at.result.1.now full in
    record {
      follows = goes_past_byte follows c.in-Byte.ensures (omega arith) c.in_ok-push-in-Byte.ensures.items c.split_at-in-Byte.ensures.back;
      text = λ utf8.
          let text = takes_stretch c.stretch.ensures.stays.within (c.reading.invariant.text utf8) c.in_ok-append-in-Byte.ensures c.split_at.ensures.front c.split_at.ensures.back in
          takes_byte _ _ _ _ _ _ c.in-Byte.next (omega arith) (rw (sym c.in-Byte.ensures) at item) text c.in_ok-push-in-Byte.ensures.items c.split_at-in-Byte.ensures.back;
    }

pub reading-preserved : goal.reading-preserved
reading-preserved g c =
    let follows = goes_past_stretch c.reading.invariant.follows c.stretch.ensures.stays c.in_ok-append-in-Character.ensures c.split_at.ensures.front c.split_at.ensures.back in
    let items = c.in_ok-append_character-in-Character.ensures in
    let scalar : IsScalar c.in-Character.character = search rules in
    let full : length c.split_at.result.1.now ≢ 0 = λ none. omega (arith, none, c.if-more-other-2.false) in
    let item = item_of_text c.args.place c.reading.mode c.split_at.result.1.now full in
    record {
      follows = goes_past_character follows c.in-Character.ensures (omega arith) items c.split_at-in-Character.ensures.back;
      text = λ utf8.
          let text = takes_stretch c.stretch.ensures.stays.within (c.reading.invariant.text utf8) c.in_ok-append-in-Character.ensures c.split_at.ensures.front c.split_at.ensures.back in
          takes_character _ _ _ _ _ _ c.in-Character.next (IsUtf8-encode c.in-Character.character scalar) (omega arith) (rw (sym c.in-Character.ensures) at item) text items c.split_at-in-Character.ensures.back;
    }
