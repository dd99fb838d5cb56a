-- The letters of quotings, and the words of attributes that have them.
use Rattle.std.proofs.Common.{ℕ, ◌≡◌, ◌≢◌, ◌<◌, ◌≤◌, true, false, List, [], ◌∷◌, bytes_eq, get_or, length, map, inl, inr, refl, sym, subst, arith}
use Rattle.std.proofs.lemmas.Bool.{cases_Bool}
use Rattle.std.proofs.lemmas.Slice.Eq.{bytes_eq-Decides}
use Rattle.hesc_places.specs.declared.markup.types.Quoting.{Quoting}
use Rattle.hesc_places.specs.declared.markup.types.Quoting.TheVariants.{Unquoted, Single, Double}
use Rattle.hesc_commands.specs.FormWords.{is_letter, name_attributes}
use Rattle.hesc_commands.specs.Names.{IsNoNameBy, quoting_name}

named_letter : (quoting : Quoting) → is_letter (quoting_name quoting) ≡ true
named_letter Unquoted = refl
named_letter Single = refl
named_letter Double = refl

pub letter : (quoting : Quoting) (word : List ℕ) → quoting_name quoting ≡ word → is_letter word ≡ true
letter quoting word named = subst (λ name. is_letter name ≡ true) named (named_letter quoting)

differs : (word name : List ℕ) → (name ≡ word → ⊥) → bytes_eq word name ≡ false
differs word name other = elim (cases_Bool (bytes_eq word name)) [
  | inl is ↦ absurd (other (sym ((bytes_eq-Decides word name).0 is)))
  | inr is ↦ is
]

pub no_letter : (word : List ℕ) → IsNoNameBy quoting_name word → is_letter word ≡ false
no_letter word none =
    rw (
      differs word (quoting_name Unquoted) (none Unquoted),
      differs word (quoting_name Single) (none Single),
      differs word (quoting_name Double) (none Double),
    ) refl

-- fewer than three words are no attribute's
pub too_few : {X : Type 0} (view : X → List ℕ) (words : List X) → length words < 3 → length words ≢ 0 → name_attributes (map view words) ≡ false
too_few view [] few some = absurd (some refl)
too_few view (a ∷ []) few some = refl
too_few view (a ∷ b ∷ []) few some = refl
too_few view (a ∷ b ∷ c ∷ words) few some = absurd (omega arith)

-- a word that should be a letter is none
pub broken : {X : Type 0} (view : X → List ℕ) (words : List X) (d : X) → 3 ≤ length words →
    IsNoNameBy quoting_name (view (get_or words 1 d)) → name_attributes (map view words) ≡ false
broken view [] d enough none = absurd (omega arith)
broken view (a ∷ []) d enough none = absurd (omega arith)
broken view (a ∷ b ∷ []) d enough none = absurd (omega arith)
broken view (a ∷ b ∷ c ∷ words) d enough none = rw (no_letter (view b) none) refl

-- no words are left
pub none_left : {X : Type 0} (view : X → List ℕ) (words : List X) → length words < 3 → name_attributes (map view words) ≡ true → map view words ≡ []
none_left view [] few named = refl
none_left view (a ∷ []) few named = cc
none_left view (a ∷ b ∷ []) few named = cc
none_left view (a ∷ b ∷ c ∷ words) few named = absurd (omega arith)
