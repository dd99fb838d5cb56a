-- Which texts may fill a slot that a segment begins with.
use Rattle.std.proofs.Common.{◌≡◌, ℕ, ◌<◌, Bool, false, not, ◌==◌, nat_lt, List, [], ◌∷◌, length, codes, bytes_eq, All, ap, arith}
use Rattle.std.proofs.lemmas.Bool.Decides.{nat_tests}
use Rattle.std.proofs.lemmas.Bool.{lt-ltb}
use Rattle.std.proofs.lemmas.List.Elements.{All-nil, All-cons}
use Rattle.std.proofs.lemmas.Slice.Eq.{bytes_eq-Decides}
use Rattle.percent_encoding.specs.Percent.{IsKept}
use Rattle.percent_encoding.proofs.PercentLemmas.{IsByte, percent_encode_unchanged}
use Rattle.url.specs.Path.{dot_count}
use Rattle.html_urls.specs.declared.component.TheConstants.{COMPONENT}
use Rattle.html_urls.specs.declared.parts.UrlSlot.{UrlSlot}
use Rattle.html_urls.specs.Components.{component}
use Rattle.html_urls.specs.Parts.Segments.{may_be_segment}
use Rattle.html_urls.specs.Slots.{may_fill}
use Rattle.html_urls.proofs.Paths.SegmentFits.{component_dots, dot_kept}

one_dot : (dot_count (component (codes ".")) == 0) ≡ false
unfolding dot_count
one_dot = ap (λ c. dot_count c == 0) (percent_encode_unchanged COMPONENT (codes ".") (All-cons (IsKept COMPONENT) 46 [] dot_kept (All-nil (IsKept COMPONENT))))

two_dots : (dot_count (component (codes "..")) == 0) ≡ false
unfolding dot_count
two_dots = ap (λ c. dot_count c == 0) (percent_encode_unchanged COMPONENT (codes "..") (All-cons (IsKept COMPONENT) 46 (46 ∷ []) dot_kept (All-cons (IsKept COMPONENT) 46 [] dot_kept (All-nil (IsKept COMPONENT)))))

dots_refused : (text : List ℕ) → may_be_segment text ≡ false → (dot_count (component text) == 0) ≡ false
dots_refused text refused = grind (arith, nat_tests, bytes_eq, bytes_eq-Decides, one_dot, two_dots, not)

pub segment_value : (text : List ℕ) → All IsByte text → may_be_segment text ≡ (dot_count (component text) == 0)
segment_value text bytes = grind (arith, nat_tests, component_dots, dots_refused)

pub fills : (slot : UrlSlot) (text : List ℕ) (r : Bool) → not slot.begins_segment ≡ false → 0 < length text → All IsByte text → r ≡ may_be_segment text → r ≡ may_fill slot text
fills slot text r begins some bytes is = grind (arith, nat_tests, nat_lt, lt-ltb, segment_value)
