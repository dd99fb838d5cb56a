-- What is known of the open segment.
use Rattle.std.proofs.Common.{◌≢◌, ◌⊎◌, inl, inr, All, ◌≡◌, ℕ, Bool, true, false, cond, List, [], ◌∷◌, ◌++◌, sym, refl, ap, ◌∙◌, append_assoc, append-nil, arith, subst}
use Rattle.std.specs.Bool.{⊤}
use Rattle.std.proofs.lemmas.Bool.{cases_eq, both_ways}
use Rattle.std.proofs.lemmas.Bool.Decides.{nat_tests}
use Rattle.std.proofs.lemmas.List.Elements.{All-nil, All-push, All-tail, All-head}
use Rattle.url.specs.Path.{dot_count}
use Rattle.html_urls.specs.Inputs.{IsNot}
use Rattle.html_urls.specs.Parts.Paths.{IsPathText, is_path_byte}
use Rattle.html_urls.proofs.Paths.PathSegments.{last_after, last_of_whole}
use Rattle.html_urls.specs.declared.open_part.OpenPart.{OpenPart}
use Rattle.html_urls.specs.declared.open_part.OpenPart.TheVariants.{NewSegment, DotSegment, NamedSegment, FirstSegment, OpaquePath, Query, Fragment}
use Rattle.html_urls.specs.OpenParts.{after_byte, after_front, after_segment_byte, begins_dots, may_be_dots}
use Rattle.html_urls.specs.Parts.Segments.{is_dot_byte, last_segment}
use Rattle.html_urls.proofs.Paths.Opening.{all_left, all_right}
use Rattle.html_urls.proofs.Paths.SegmentFits.{IsDotByte, dot_segment_bytes}

-- whatever follows, the segment reads as neither `.` nor `..`
abbrev pub IsNamed : List ℕ → Type 0
IsNamed s = (more : List ℕ) → dot_count (s ++ more) ≡ 0

named_byte : (s : List ℕ) (b : ℕ) → is_dot_byte b ≡ false → IsNamed (s ++ b ∷ [])
named_byte s b other more =
    elim (cases_eq (dot_count ((s ++ b ∷ []) ++ more)) 0) [
      | inl none ↦ none
      | inr dots ↦ let all = dot_segment_bytes ((s ++ b ∷ []) ++ more) dots in
          let one : is_dot_byte b ≡ true = All-head IsDotByte b [] (all_right IsDotByte s (b ∷ []) (all_left IsDotByte (s ++ b ∷ []) more all)) in
          absurd (both_ways _ other one)
    ]

named_first : (b : ℕ) → begins_dots b ≡ false → IsNamed (b ∷ [])
unfolding dot_count
named_first b other more = grind (arith, nat_tests)

pub named_more : (s t : List ℕ) → IsNamed s → IsNamed (s ++ t)
named_more s t named more = ap dot_count (append_assoc s t more) ∙ named (t ++ more)

abbrev pub Open : OpenPart → List ℕ → Type 0
Open NewSegment s = s ≡ []
Open DotSegment s = ⊤
Open NamedSegment s = IsNamed s
Open FirstSegment s = IsNamed s
Open OpaquePath s = ⊤
Open Query s = ⊤
Open Fragment s = ⊤

abbrev pub in_path : OpenPart → Bool
in_path NewSegment = true
in_path DotSegment = true
in_path NamedSegment = true
in_path FirstSegment = true
in_path OpaquePath = false
in_path Query = false
in_path Fragment = false

nothing_is_no_dot : dot_count [] ≡ 0
unfolding dot_count
nothing_is_no_dot = refl

-- a segment that ends here reads as neither
pub closes : (p : OpenPart) (s : List ℕ) → in_path p ≡ true → may_be_dots p ≡ false → Open p s → dot_count s ≡ 0
closes NewSegment s path other is = ap dot_count is ∙ nothing_is_no_dot
closes DotSegment s path other is = cc
closes NamedSegment s path other is = ap dot_count (sym (append-nil s)) ∙ is []
closes FirstSegment s path other is = ap dot_count (sym (append-nil s)) ∙ is []
closes OpaquePath s path other is = cc
closes Query s path other is = cc
closes Fragment s path other is = cc

dot_or_named : (s : List ℕ) (b : ℕ) → (test : Bool) → (test ≡ false → IsNamed (s ++ b ∷ [])) → Open (cond test DotSegment NamedSegment) (s ++ b ∷ [])
dot_or_named s b test named = grind (arith, nat_tests)

-- after a byte of the segment
pub after_segment : (p : OpenPart) (s : List ℕ) (b : ℕ) → Open p s → Open (after_segment_byte p b) (s ++ b ∷ [])
after_segment p s b is = grind (arith, nat_tests, dot_or_named, named_first, named_byte, named_more)

pub segment_in_path : (p : OpenPart) (b : ℕ) → in_path (after_segment_byte p b) ≡ true
segment_in_path p b = grind (arith, nat_tests)

-- ---- a byte of a path

pub data PathByte (p : OpenPart) (b : ℕ) : Type 0 where
  slash : b ≡ 47 → after_byte p b ≡ NewSegment → PathByte p b
  tail : (b ≡ 63) ⊎ (b ≡ 35) → PathByte p b
  inside : b ≢ 47 → b ≢ 63 → b ≢ 35 → after_byte p b ≡ after_segment_byte p b → PathByte p b

pub path_byte : (p : OpenPart) (b : ℕ) → in_path p ≡ true → PathByte p b
path_byte p b path =
    elim (cases_eq b 47) [
      | inl is ↦ slash is (grind (arith, nat_tests))
      | inr no_slash ↦ elim (cases_eq b 63) [ inl query ↦ tail (inl query) | inr no_query ↦ elim (cases_eq b 35) [ inl fragment ↦ tail (inr fragment) | inr no_fragment ↦ inside no_slash no_query no_fragment (grind (arith, nat_tests)) ] ]
    ]

-- what is known behind bytes of a path
pub path_front : (xs s : List ℕ) (p : OpenPart) → IsPathText xs → All (IsNot 47) s → in_path p ≡ true → Open p s → (in_path (after_front p xs) ≡ true) × Open (after_front p xs) (last_segment (s ++ xs))
path_front [] s p plain whole path is = (path, subst (Open p) (sym (ap last_segment (append-nil s) ∙ last_of_whole s whole)) is)
path_front (x ∷ xs) s p plain whole path is = by_kind (λ s q. path_front xs s q (All-tail (λ b. is_path_byte b ≡ true) x xs plain)) (path_byte p x path)
  where
    by_kind : ((s : List ℕ) (q : OpenPart) → All (IsNot 47) s → in_path q ≡ true → Open q s → (in_path (after_front q xs) ≡ true) × Open (after_front q xs) (last_segment (s ++ xs))) →
        PathByte p x → (in_path (after_front (after_byte p x) xs) ≡ true) × Open (after_front (after_byte p x) xs) (last_segment (s ++ x ∷ xs))
    by_kind later (slash here next) = rw (next, here, last_after s xs) (later [] NewSegment (All-nil (IsNot 47)) refl refl)
    by_kind later (tail ends) = absurd (grind (arith, nat_tests, All-head (λ b. is_path_byte b ≡ true) x xs plain))
    by_kind later (inside no_slash no_query no_fragment next) =
        rw (next, ← append_assoc s (x ∷ []) xs) (later (s ++ x ∷ []) (after_segment_byte p x) (All-push (IsNot 47) s x whole no_slash) (segment_in_path p x) (after_segment p s x is))
