use Rattle.std.proofs.Common.{◌≡◌, ◌+◌, ◌-◌, ◌<◌, true, length, drop, Some, refl, sym, ◌∙◌, arith, slice_index}
use Rattle.std.proofs.lemmas.Bool.{eqb-true}
use Rattle.std.proofs.lemmas.Grind.{common_steps}
use Rattle.std.proofs.lemmas.List.{take_rest, get_or-drop, length-drop}
use Rattle.std.proofs.lemmas.Str.{IsCharBoundary-before_ascii, IsCharBoundary-after_ascii}
use Rattle.std.proofs.Math.Bool.{and-false}
use Rattle.hesc_specs.specs.Text.Ascii.{backslash}
use Rattle.hesc_specs.specs.Strings.Changes.{is_after_less, string_decoding_changes}
use Rattle.hesc_specs.specs.Strings.Tokens.{escape}
use Rattle.hesc_specs.proofs.Strings.DecodingChanges.{next-string_decoding_changes}
use Rattle.hesc_specs.proofs.Strings.EscapeEnds.{EndsWithin, escape-ends}
use Rattle.hesc_specs.specs.Strings.Changes.{string_escapes_at}
use Rattle.hesc_core.proofs.EachPlace.{found-here}
use Rattle.hesc_specs.proofs.Strings.Places.{step}
use Rattle.hesc_core.proofs.rules.unescape.string_unescape_at.Goals as goal

pub overflow_add-result-in-Some : goal.overflow_add-result-in-Some
overflow_add-result-in-Some c =
    let text = c.args.text.now in
    let start = c.args.place in
    let known : c.escape.result ≡ escape c.args.element c.args.quotes (is_after_less text start) (drop (start + 1) text) =
    rw (c.is_after_less-after_less.ensures, c.as_bytes-bytes.ensures.value, take_rest text (start + 1)) at c.escape.ensures in
    let escapes : escape c.args.element c.args.quotes (is_after_less text start) (drop (start + 1) text) ≡ Some (c.in-Some.more, c.in-Some.character) = sym known ∙ c.in-Some.is in
    let ends : EndsWithin (drop (start + 1) text) c.in-Some.more c.in-Some.character = escape-ends c.args.element c.args.quotes (is_after_less text start) (drop (start + 1) text) c.in-Some.more c.in-Some.character escapes in
    let within = ends.within in grind (arith, common_steps)

pub returns-in-None-clause-none : goal.returns-in-None-clause-none
returns-in-None-clause-none c =
    let text = c.args.text.now in
    let start = c.args.place in
    let known : c.escape.result ≡ escape c.args.element c.args.quotes (is_after_less text start) (drop (start + 1) text) =
    rw (c.is_after_less-after_less.ensures, c.as_bytes-bytes.ensures.value, take_rest text (start + 1)) at c.escape.ensures in
    rw (sym known ∙ c.in-None.is) (and-false _)

pub returns-in-Some-clause-found : goal.returns-in-Some-clause-found
returns-in-Some-clause-found c =
    let text = c.args.text.now in
    let start = c.args.place in
    let more = c.in-Some.more in
    let inside = c.requires.within in
    let is : slice_index text start ≡ backslash = eqb-true (slice_index text start) backslash c.requires.sought in
    let known : c.escape.result ≡ escape c.args.element c.args.quotes (is_after_less text start) (drop (start + 1) text) =
    rw (c.is_after_less-after_less.ensures, c.as_bytes-bytes.ensures.value, take_rest text (start + 1)) at c.escape.ensures in
    let escapes : escape c.args.element c.args.quotes (is_after_less text start) (drop (start + 1) text) ≡ Some (more, c.in-Some.character) = sym known ∙ c.in-Some.is in
    let ends : EndsWithin (drop (start + 1) text) more c.in-Some.character = escape-ends c.args.element c.args.quotes (is_after_less text start) (drop (start + 1) text) more c.in-Some.character escapes in
    let end : start + 1 + (more - 1) ≡ start + more = omega (arith, ends.some) in
    let last : slice_index text (start + more) < 128 = rw (get_or-drop (start + 1) text (more - 1) 0, end) at ends.ascii in
    let same_end : start + more + 1 ≡ start + 1 + more = omega arith in
    let within : start + more < length text = omega (arith, ends.within, length-drop (start + 1) text) in
    let begins : string_escapes_at c.args.element c.args.quotes text start ≡ true = rw (is, escapes) refl in
    found-here text (string_escapes_at c.args.element c.args.quotes text) (string_decoding_changes c.args.element c.args.quotes text) (step c.args.element c.args.quotes text) start _ begins
    (omega arith) (omega arith) (omega arith) (omega (arith, within))
    (IsCharBoundary-before_ascii text start inside (rw is (omega arith))) (rw same_end at (IsCharBoundary-after_ascii text (start + more) c.utf8.text within last))
    (rw c.from_char.ensures (next-string_decoding_changes c.args.element c.args.quotes text start more c.in-Some.character inside is escapes))
