-- Names of one or two letters, of which the tokenizer looks for `a` and `q` alone in a normal content.
use Rattle.std.proofs.Common.{ℕ, ◌≡◌, ◌<◌, true, false, ◌||◌, List, [], ◌∷◌, Some, length, bytes_eq, codes, refl, ⊎_elim, arith}
use Rattle.std.proofs.Math.Bool.{and-false}
use Rattle.std.proofs.lemmas.Bool.{or_cases, or_parts}
use Rattle.std.proofs.lemmas.Slice.Eq.{bytes_eq-Decides}
use Rattle.html_tokenizer.specs.declared.elements.Content.{Content}
use Rattle.html_tokenizer.specs.declared.elements.OpenElement.TheVariants.{LinkTag, Normal}
use Rattle.html_tokenizer.specs.Tokenizer.Elements.{content_of, with_element}

pub link_content : (content : Content) (name : List ℕ) → content.element ≡ Normal →
    (bytes_eq name (codes "a") || bytes_eq name (codes "q")) ≡ true → content_of content name ≡ Some (with_element content LinkTag)
link_content content name normal is =
    ⊎_elim
    (λ (link : bytes_eq name (codes "a") ≡ true). rw ((bytes_eq-Decides name (codes "a")).0 link, normal) refl)
    (λ (quotation : bytes_eq name (codes "q") ≡ true). rw ((bytes_eq-Decides name (codes "q")).0 quotation, normal) refl)
    (or_cases (bytes_eq name (codes "a")) (bytes_eq name (codes "q")) is)

pub short_content : (content : Content) (name : List ℕ) → content.element ≡ Normal →
    (bytes_eq name (codes "a") || bytes_eq name (codes "q")) ≡ false → length name < 3 → content_of content name ≡ Some (with_element content Normal)
short_content content [] normal other short = rw normal refl
short_content content (a ∷ []) normal other short =
    let parts = or_parts (bytes_eq (a ∷ []) (codes "a")) (bytes_eq (a ∷ []) (codes "q")) other in
    rw normal (simp (and-false, parts.0, parts.1))
short_content content (a ∷ b ∷ []) normal other short = rw normal (simp and-false)
short_content content (a ∷ b ∷ c ∷ name) normal other short = absurd (omega arith)
