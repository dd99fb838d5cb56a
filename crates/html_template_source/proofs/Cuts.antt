-- A text that is cut at the first mark, and the search for it.
use Rattle.std.proofs.Common.{ℕ, ◌≡◌, ◌<◌, ◌≤◌, ◌+◌, ◌-◌, Bool, true, List, Some, None, inl, inr, eqb, slice_index, ◌++◌, length, drop, take, subst, sym, ap, ◌∙◌, append_assoc, length-append, arith, IsUtf8, IsCharBoundary}
use Rattle.core.proofs.iter.Find.{text_at}
use Rattle.std.specs.List.{starts_with}
use Rattle.std.proofs.Math.Seq.{drop-append_seam, take-append_seam, take-length}
use Rattle.std.proofs.lemmas.List.{drop-drop, length-drop, length-take, take-append-drop}
use Rattle.std.proofs.lemmas.Bool.{cases_lt, eq-eqb, false≢true}
use Rattle.std.proofs.lemmas.Bool.Decides.{Decides-eqb}
use Rattle.std.proofs.lemmas.Slice.Eq.{starts_is}
use Rattle.std.proofs.lemmas.Str.{IsCharBoundary-from_drop, IsCharBoundary-from_take}
use Rattle.memchr.specs.Find.{FindsNeedle, NoneBefore, Nowhere, OccursAt, is_byte}
use Rattle.memchr.proofs.lemmas.MatchLemmas.{OccursAt-from_part, OccursAt-part, OccursAt-split}
use Rattle.hesc_specs.specs.Text.FirstPlace.{IsFirstPlace}
use Rattle.html_template_source.specs.Sources.{Lacks}

-- ---- the search

-- `bytes[place..]`
pub slice_from : (bytes : List ℕ) (place : ℕ) → take (length bytes - place) (drop place bytes) ≡ drop place bytes
slice_from bytes place = ap (λ n. take n (drop place bytes)) (sym (length-drop place bytes)) ∙ take-length (drop place bytes)

-- what occurs behind a place does so in the rest
in_rest : (mark bytes : List ℕ) (place k : ℕ) → OccursAt bytes mark (place + k) → OccursAt (drop place bytes) mark k
in_rest mark bytes place k stands =
    OccursAt-from_part (drop place bytes) mark k (omega (arith, stands.fits, length-drop place bytes))
    (ap (take (length mark)) (drop-drop k place bytes) ∙ OccursAt-part bytes mark (place + k) stands)

in_all : (mark bytes : List ℕ) (place k : ℕ) → place ≤ length bytes → OccursAt (drop place bytes) mark k → OccursAt bytes mark (place + k)
in_all mark bytes place k within stands =
    OccursAt-from_part bytes mark (place + k) (omega (arith, stands.fits, length-drop place bytes))
    (ap (take (length mark)) (sym (drop-drop k place bytes)) ∙ OccursAt-part (drop place bytes) mark k stands)

-- none occurs before the first place with its first byte
none_before : (mark bytes : List ℕ) (place k : ℕ) → 0 < length mark → IsFirstPlace (is_byte (slice_index mark 0)) bytes 0 place → k < place →
    OccursAt bytes mark k → ⊥
none_before mark bytes place k some found below stands =
    let here : k + 0 ≡ k = omega arith in
    let byte : slice_index bytes k ≡ slice_index mark 0 = ap (slice_index bytes) (sym here) ∙ stands.reads 0 some in
    false≢true (sym (found.before k (omega arith) below) ∙ eq-eqb _ _ byte)

pub found_there : (mark bytes : List ℕ) (place : ℕ) (begins : Bool) → 0 < length mark → IsFirstPlace (is_byte (slice_index mark 0)) bytes 0 place →
    begins ≡ starts_with eqb (drop place bytes) mark → begins ≡ true → FindsNeedle bytes mark 0 (Some place)
found_there mark bytes place begins some found tests does =
    let rest : List ℕ = drop (length mark) (drop place bytes) in
    let whole : drop place bytes ≡ mark ++ rest = (starts_is (λ a b. Decides-eqb a b) (drop place bytes) mark begins tests).0 does in (
      record { low = omega arith; high = omega (arith, found.in_range); before = λ k from below. none_before mark bytes place k some found below },
      OccursAt-from_part bytes mark place (omega (arith, found.in_range, ap length whole, length-append mark rest, length-drop place bytes))
          (ap (take (length mark)) whole ∙ take-append_seam mark rest),
    )

pub found_behind : (mark bytes : List ℕ) (place distance : ℕ) → 0 < length mark → IsFirstPlace (is_byte (slice_index mark 0)) bytes 0 place →
    FindsNeedle (drop place bytes) mark 0 (Some distance) → FindsNeedle bytes mark 0 (Some (place + distance))
found_behind mark bytes place distance some found there = (
  record {
    low = omega arith;
    high = omega (arith, there.0.high, length-drop place bytes, found.in_range);
    before = λ k from below stands. elim (cases_lt k place) [
      | inl earlier ↦ none_before mark bytes place k some found earlier stands
      | inr later ↦
          let same : place + (k - place) ≡ k = omega arith in
          there.0.before (k - place) (omega arith) (omega arith) (in_rest mark bytes place (k - place) (subst (OccursAt bytes mark) (sym same) stands))
    ];
  },
  in_all mark bytes place distance found.in_range there.1,
)

pub found_nowhere : (mark bytes : List ℕ) (place : ℕ) → 0 < length mark → IsFirstPlace (is_byte (slice_index mark 0)) bytes 0 place →
    FindsNeedle (drop place bytes) mark 0 None → FindsNeedle bytes mark 0 None
found_nowhere mark bytes place some found there = λ k from below stands. elim (cases_lt k place) [
  | inl earlier ↦ none_before mark bytes place k some found earlier stands
  | inr later ↦
      let same : place + (k - place) ≡ k = omega arith in
      there (k - place) (omega arith) (omega (arith, length-drop place bytes)) (in_rest mark bytes place (k - place) (subst (OccursAt bytes mark) (sym same) stands))
]

-- ---- the cut

-- a mark occurs where it stands
occurs : (mark bytes front rest : List ℕ) → bytes ≡ front ++ (mark ++ rest) → OccursAt bytes mark (length front)
occurs mark bytes front rest is =
    OccursAt-from_part bytes mark (length front) (omega (arith, ap length is, length-append front (mark ++ rest), length-append mark rest))
    (ap (λ x. take (length mark) (drop (length front) x)) is
    ∙ ap (take (length mark)) (drop-append_seam front (mark ++ rest))
    ∙ take-append_seam mark rest)

-- no mark stands where none was found
pub lacks_none : (mark bytes : List ℕ) → Nowhere (OccursAt bytes mark) 0 (length bytes + 1) → Lacks mark bytes
lacks_none mark bytes none front rest is =
    none (length front) (omega arith) (omega (arith, ap length is, length-append front (mark ++ rest))) (occurs mark bytes front rest is)

-- nor before the first
pub cut_first : (mark bytes : List ℕ) (place : ℕ) → 0 < length mark → NoneBefore (OccursAt bytes mark) 0 (length bytes + 1) place →
    Lacks mark (take place bytes)
cut_first mark bytes place some first front rest is =
    let whole : bytes ≡ front ++ (mark ++ (rest ++ drop place bytes)) =
    sym (take-append-drop place bytes) ∙ ap (λ x. x ++ drop place bytes) is ∙ append_assoc front (mark ++ rest) (drop place bytes)
    ∙ ap (λ x. front ++ x) (append_assoc mark rest (drop place bytes)) in
    first.before (length front) (omega arith)
    (omega (arith, ap length is, length-append front (mark ++ rest), length-append mark rest, length-take place bytes))
    (occurs mark bytes front (rest ++ drop place bytes) whole)

pub whole_text : (mark text : List ℕ) (place : ℕ) → OccursAt text mark place →
    text ≡ take place text ++ (mark ++ drop (place + length mark) text)
whole_text mark text place stands =
    sym (take-append-drop place text) ∙ ap (λ x. take place text ++ x) (OccursAt-split text mark place stands)

-- a text may be cut on both sides of the mark
pub sides : (mark text : List ℕ) (place : ℕ) → IsUtf8 mark → IsUtf8 text → 0 < length mark → OccursAt text mark place →
    IsCharBoundary text place × IsCharBoundary text (place + length mark)
sides mark text place mark_utf8 text_utf8 some stands =
    let parts = text_at text mark place text_utf8 mark_utf8 stands.fits (OccursAt-part text mark place stands) (λ none. absurd (omega (arith, some))) in
    (IsCharBoundary-from_take text place text_utf8 (omega (arith, stands.fits)) parts.1, IsCharBoundary-from_drop text (place + length mark) stands.fits parts.2)
