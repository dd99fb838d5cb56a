use Rattle.std.proofs.Common.{◌≡◌, ◌+◌, false, true, drop, sym, inl, inr, arith, slice_index}
use Rattle.std.proofs.lemmas.List.{take_rest}
use Rattle.hesc_specs.specs.Text.EscapedPlaces.{completes_separator}
use Rattle.hesc_specs.specs.declared.elements.Element.TheVariants.{Style}
use Rattle.hesc_sinks.specs.declared.found.Replacement.TheVariants.{Small}
use Rattle.hesc_core.proofs.ClassEscapes.{byte_at, no_separator, separator_at}
use Rattle.hesc_core.proofs.ClassRows.{without_text}
use Rattle.hesc_core.proofs.rules.escape.escape_at.Goals as goal

pub returns-then-bytes-place-eq0-clause-found : goal.returns-then-bytes-place-eq0-clause-found
returns-then-bytes-place-eq0-clause-found c =
    let class = c.args.class in
    let text = c.args.text.now in
    let place = c.args.place in
    let nul : slice_index text place ≡ 0 = rw c.as_bytes-bytes.ensures.value at c.if-bytes-place-eq0.true in
    elim (without_text class (slice_index text place) c.requires.sought c.requires.without_text) [
      | inl style ↦ byte_at class Style style.0 text c.utf8.text place c.requires.within c.requires.sought (omega (arith, nul)) (Small c.from_char.result) (rw nul c.from_char.ensures)
      | inr lead ↦ absurd (omega (arith, nul, lead.1))
    ]

pub returns-then-not-completes_separator-clause-none : goal.returns-then-not-completes_separator-clause-none
returns-then-not-completes_separator-clause-none c =
    let text = c.args.text.now in
    let place = c.args.place in
    let fails : completes_separator (drop (place + 1) text) ≡ false = rw (c.as_bytes-bytes.ensures.value, take_rest text (place + 1)) at (sym c.if-not-completes_separator.ensures) in
    elim (without_text c.args.class (slice_index text place) c.requires.sought c.requires.without_text) [
      | inl style ↦ absurd (rw c.as_bytes-bytes.ensures.value at c.if-bytes-place-eq0.false style.1)
      | inr lead ↦ no_separator c.args.class text place c.requires.within lead.1 fails
    ]

pub returns-clause-found : goal.returns-clause-found
returns-clause-found c =
    let text = c.args.text.now in
    let place = c.args.place in
    let completes : completes_separator (drop (place + 1) text) ≡ true = rw (c.as_bytes-bytes.ensures.value, take_rest text (place + 1)) at (sym c.if-not-completes_separator.ensures) in
    elim (without_text c.args.class (slice_index text place) c.requires.sought c.requires.without_text) [
      | inl style ↦ absurd (rw c.as_bytes-bytes.ensures.value at c.if-bytes-place-eq0.false style.1)
      | inr lead ↦ separator_at c.args.class lead.0 text c.utf8.text place c.requires.within c.requires.sought lead.1 completes (Small c.separator_escape.result) (rw c.as_bytes-bytes.ensures.value at c.separator_escape.ensures)
    ]
