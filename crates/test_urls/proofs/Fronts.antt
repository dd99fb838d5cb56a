-- Where the front of an example ends, and what fills the slots of another, by computing.
use Rattle.std.proofs.Common.{◌≡◌, ℕ, ◌==◌, nat_lt, List, [], ◌∷◌, codes, All, refl, ap, true, arith}
use Rattle.std.specs.List.{list_all}
use Rattle.std.proofs.lemmas.Bool.Decides.{nat_tests}
use Rattle.std.proofs.lemmas.List.Elements.{All-weaker}
use Rattle.percent_encoding.proofs.PercentLemmas.{IsByte}
use Rattle.url.specs.Path.{dot_count}
use Rattle.url.proofs.InputLemmas.{All_from_list_all}
use Rattle.html_urls.specs.Components.{component}
use Rattle.html_urls.specs.Decoded.{AreBytes}
use Rattle.html_urls.specs.Slots.{FillUrl}
use Rattle.test_urls.specs.Items.{item_parts}
use Rattle.html_urls.proofs.Paths.SegmentFits.{component_dots}
use Rattle.html_urls.specs.Parts.Queries.{EndsInQuery}
use Rattle.html_urls.specs.Parts.Segments.{may_be_segment}
use Rattle.html_urls.specs.declared.place.UrlPlace.TheVariants.{Query}
use Rattle.html_urls.proofs.Places.PlaceIs.{place_is}

pub query_front : EndsInQuery (codes "/a?q=")
query_front = place_is Query (codes "/a?q=") refl

-- ---- the slots of `/items/`, a slot, `?q=` and a slot

are_bytes : (text : List ℕ) → list_all (λ b. nat_lt b 256) text ≡ true → All IsByte text
are_bytes text is = All-weaker (λ b. nat_lt b 256 ≡ true) IsByte (λ b below. grind (arith, nat_tests)) text (All_from_list_all (λ b. nat_lt b 256) text is)

is_segment : (text : List ℕ) → list_all (λ b. nat_lt b 256) text ≡ true → may_be_segment text ≡ true → (dot_count (component text) == 0) ≡ true
is_segment text bytes may = ap (λ n. n == 0) (component_dots text (are_bytes text bytes) may)

pub hostile_fill : FillUrl item_parts (codes "../../logout" ∷ codes "1&admin=1" ∷ [])
hostile_fill = ((is_segment (codes "../../logout") refl refl, (refl, tt)), refl)

pub hostile_bytes : AreBytes (codes "../../logout" ∷ codes "1&admin=1" ∷ [])
hostile_bytes = (are_bytes (codes "../../logout") refl, (are_bytes (codes "1&admin=1") refl, tt))
