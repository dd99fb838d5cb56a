use Rattle.std.proofs.Common.{◌≡◌, ◌+◌, ◌≤◌, ◌<◌, ℕ, false, List, ◌∷◌, length, drop, refl, sym, arith, inl, inr}
use Rattle.std.proofs.lemmas.Bool.{cases_Bool}
use Rattle.std.proofs.lemmas.List.{length-drop, take_rest}
use Rattle.hesc_specs.specs.Text.Ascii.{less_than}
use Rattle.hesc_specs.specs.Bodies.Sessions.{is_partial}
use Rattle.hesc_specs.specs.declared.elements.Element.{Element}
use Rattle.hesc_specs.proofs.Bodies.Held.{longest_held, partial-short}
use Rattle.hesc_scan.proofs.OpeningSearch.{Nowhere, NeedsLessThan, at_less_than, further, past}
use Rattle.html_escape.proofs.body_encoder.partial.first_partial.Goals as goal

is_partial-needs : (element : Element) → NeedsLessThan (is_partial element)
is_partial-needs element b bytes other = rw other refl

-- more bytes than eight are decided
nowhere-early : (element : Element) (bytes : List ℕ) (from start : ℕ) → start ≤ length bytes → (from < start → start + longest_held ≤ length bytes) → Nowhere (is_partial element) bytes from start
nowhere-early element bytes from start within late k after below =
    elim (cases_Bool (is_partial element (drop k bytes))) [
      | inl partial ↦ absurd (omega (arith, late (omega arith), partial-short element (drop k bytes) partial, length-drop k bytes))
      | inr decided ↦ decided
    ]

pub seeking-init : goal.seeking-init
seeking-init c =
    let first = c.first_byte-place.ensures in
    let start = c.max-start.result in
    let early : Nowhere (is_partial c.args.element) c.args.bytes.now c.args.from start =
    nowhere-early c.args.element c.args.bytes.now c.args.from start (omega (arith, first.ordered, first.in_range)) (λ later. omega (arith, c.max-start.ensures, c.saturating_sub.ensures)) in
    record {
      ordered = omega (arith, c.max-start.ensures, first.ordered);
      within = first.in_range;
      none = further (is_partial c.args.element) (is_partial-needs c.args.element) c.args.bytes.now c.args.from start c.first_byte-place.result early first;
      begins = first.found;
    }

pub seeking-preserved : goal.seeking-preserved
seeking-preserved c =
    let bytes = c.args.bytes.now in
    let place = c.seeking.place in
    let first = c.first_byte-place-in-seeking.ensures in
    let before = c.seeking.invariant in
    let inside : place < length bytes = c.seeking-test.true in
    let whole : is_partial c.args.element (drop place bytes) ≡ false = rw (take_rest bytes place) at (sym c.if-is_partial.ensures) in
    let fails : is_partial c.args.element (less_than ∷ drop (place + 1) bytes) ≡ false = rw (at_less_than bytes place inside (before.begins inside)) at whole in
    let tried : Nowhere (is_partial c.args.element) bytes c.args.from (place + 1) =
    past (is_partial c.args.element) bytes c.args.from place inside (before.begins inside) before.none fails in
    record {
      ordered = omega (arith, first.ordered, before.ordered);
      within = first.in_range;
      none = further (is_partial c.args.element) (is_partial-needs c.args.element) bytes c.args.from (place + 1) c.first_byte-place-in-seeking.result tried first;
      begins = first.found;
    }

pub returns-then-is_partial : goal.returns-then-is_partial
returns-then-is_partial c = record {
  ordered = c.seeking.invariant.ordered;
  in_range = c.seeking.invariant.within;
  found = λ within. rw (take_rest c.args.bytes.now c.seeking.place) at (sym c.if-is_partial.ensures);
  before = c.seeking.invariant.none;
}
