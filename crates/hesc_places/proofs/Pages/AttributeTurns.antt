-- The turns of the attributes' reader: the attributes so far, and those that follow, are all.
use Rattle.std.proofs.Common.{ℕ, zero, suc, ◌≡◌, List, [], ◌∷◌, ◌++◌, Option, Some, None, sym, ap, ◌∙◌, append_assoc, append-nil}
use Rattle.std.specs.Option.{option_map}
use Rattle.hesc_places.specs.Pages.AttributeReadings.{Entry, attribute_at, attributes_at}

-- attributes before others
abbrev pub after_front : List Entry → List Entry × List ℕ → List Entry × List ℕ
after_front front found = (front ++ found.0, found.1)

-- no attribute may follow
pub none_follows : (front : List Entry) (bytes : List ℕ) {whole : List Entry × List ℕ} →
    after_front front (attributes_at zero bytes) ≡ whole → (front, bytes) ≡ whole
unfolding attributes_at
none_follows front bytes known = ap (λ all. (all, bytes)) (sym (append-nil front)) ∙ known

-- no attribute follows
pub no_more : {X : Type 0} (view : X → Entry × List ℕ) {found : Option X} (front : List Entry) (most : ℕ) (bytes : List ℕ) {whole : List Entry × List ℕ} →
    found ≡ None → option_map view found ≡ attribute_at bytes → after_front front (attributes_at most bytes) ≡ whole → (front, bytes) ≡ whole
unfolding attributes_at
no_more view front zero bytes is read known = ap (λ all. (all, bytes)) (sym (append-nil front)) ∙ known
no_more view front (suc most) bytes is read known =
    let none : attribute_at bytes ≡ None = sym read ∙ ap (option_map view) is in
    ap (λ all. (all, bytes)) (sym (append-nil front)) ∙ rw none at known

-- an attribute follows, and the reading goes on after it
pub one_more : {X : Type 0} (view : X → Entry × List ℕ) {found : Option X} {x : X} (front : List Entry) {longer : List Entry} {most : ℕ} (fewer : ℕ) (bytes : List ℕ) {whole : List Entry × List ℕ} →
    found ≡ Some x → option_map view found ≡ attribute_at bytes → most ≡ suc fewer → longer ≡ front ++ (view x).0 ∷ [] →
    after_front front (attributes_at most bytes) ≡ whole → after_front longer (attributes_at fewer (view x).1) ≡ whole
unfolding attributes_at
one_more view {x = x} front fewer bytes {whole} is read one added known =
    let found : attribute_at bytes ≡ Some (view x) = sym read ∙ ap (option_map view) is in
    let others : List Entry × List ℕ = attributes_at fewer (view x).1 in
    let all : after_front front ((view x).0 ∷ others.0, others.1) ≡ whole = rw (one, found) at known in
    rw added (ap (λ all. (all, others.1)) (append_assoc front ((view x).0 ∷ []) others.0) ∙ all)
