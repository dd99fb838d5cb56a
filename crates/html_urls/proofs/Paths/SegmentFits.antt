-- Which texts read as dots in a segment.
use Rattle.std.proofs.Common.{◌≡◌, ◌≢◌, ℕ, true, false, ◌==◌, List, ◌++◌, length, take, drop, All, sym, refl, ap, ◌∙◌, subst, append-nil, arith, take_all, take-append-drop, inl, inr}
use Rattle.std.proofs.lemmas.Bool.{cond-true, cond-false, cases_Bool}
use Rattle.std.proofs.lemmas.Bool.Decides.{nat_tests}
use Rattle.std.proofs.lemmas.List.Elements.{All-append}
use Rattle.percent_encoding.specs.AsciiSet.{should_percent_encode}
use Rattle.percent_encoding.proofs.PercentLemmas.{IsByte}
use Rattle.url.specs.Input.{is_empty}
use Rattle.url.specs.Path.{dot_count, dot_len}
use Rattle.url.proofs.InputLemmas.{is_empty-nil}
use Rattle.url.proofs.PathLemmas.{IsDots, dots_from_encoded}
use Rattle.html_urls.specs.declared.component.TheConstants.{COMPONENT}
use Rattle.html_urls.specs.Components.{component}
use Rattle.html_urls.specs.Parts.Segments.{may_be_segment, is_dot_byte}

pub dot_kept : should_percent_encode COMPONENT 46 ≡ false
unfolding should_percent_encode
dot_kept = refl

pub percent_escaped : should_percent_encode COMPONENT 37 ≡ true
unfolding should_percent_encode
percent_escaped = refl

dots_refused : (text : List ℕ) → IsDots text → may_be_segment text ≡ false
dots_refused text given_1 = grind (arith, nat_tests)

-- an escaped text reads as `.` or `..` only where it is `.` or `..`
pub component_dots : (text : List ℕ) → All IsByte text → may_be_segment text ≡ true → dot_count (component text) ≡ 0
component_dots text bytes may = grind (arith, nat_tests, percent_escaped, dots_refused, dots_from_encoded, dot_kept)

-- ---- the bytes of dot segments

abbrev pub IsDotByte : ℕ → Type 0
IsDotByte b = is_dot_byte b ≡ true

dot_bytes : (xs : List ℕ) → All IsDotByte (take (dot_len xs) xs)
dot_bytes xs = grind (arith, nat_tests)

-- a segment that reads as `.` or `..` has no other byte than those of a dot
pub dot_segment_bytes : (xs : List ℕ) → dot_count xs ≢ 0 → All IsDotByte xs
unfolding dot_count
dot_segment_bytes xs dots =
    let n = dot_len xs in
    let rest = drop n xs in
    let front = dot_bytes xs in
    elim (cases_Bool (n == 0)) [
      | inl none ↦ absurd (dots (cond-true _ _ _ none))
      | inr some ↦ elim (cases_Bool (is_empty rest)) [
        | inl one ↦ subst (All IsDotByte) (ap (λ l. take n xs ++ l) (sym (is_empty-nil rest one)) ∙ take-append-drop n xs) (subst (All IsDotByte) (sym (append-nil (take n xs))) front)
        | inr more ↦ elim (cases_Bool (dot_len rest == length rest)) [
          | inl two ↦ let all : dot_len rest ≡ length rest = grind (arith, nat_tests) in
              let back = subst (All IsDotByte) (ap (λ k. take k rest) all ∙ take_all (length rest) rest (omega arith)) (dot_bytes rest) in
              subst (All IsDotByte) (take-append-drop n xs) (All-append IsDotByte (take n xs) rest front back)
          | inr other ↦ absurd (dots (cond-false _ _ _ some ∙ cond-false _ _ _ more ∙ cond-false _ _ _ other))
        ]
      ]
    ]
