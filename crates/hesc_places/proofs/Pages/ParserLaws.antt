-- What the small parsers find in front of what stands after it.
use Rattle.std.proofs.Common.{ℕ, ◌≡◌, ◌≢◌, ◌+◌, Bool, true, false, ◌&&◌, List, [], ◌∷◌, ◌++◌, ◌==◌, nat_eq, Option, Some, None, Bor, take, drop, length, refl, sym, ap, ◌∙◌, arith, ne_eqb, suc}
use Rattle.std.specs.Option.{MatchOption, option_map}
use Rattle.std.specs.Cmp.Lexicographic.{pointwise}
use Rattle.std.specs.List.{list_all, prefix_len}
use Rattle.std.proofs.Math.Seq.{take-append_seam, drop-append_seam}
use Rattle.std.proofs.lemmas.Bool.{and_parts}
use Rattle.hesc_specs.specs.Text.Words.{begins}
use Rattle.hesc_places.specs.Pages.Parsers.{past, some_while}
use Rattle.std.specs.Prelude.{cond}
use Rattle.std.specs.Char.{is_ascii_lowercase}
use Rattle.std.proofs.lemmas.Bool.Decides.{nat_tests}
use Rattle.hesc_places.specs.Pages.FormTexts.{is_name}

begins-pointwise : (word bytes : List ℕ) → pointwise nat_eq (take (length word) bytes) word ≡ begins word bytes
begins-pointwise [] bytes = refl
begins-pointwise (w ∷ word) [] = refl
begins-pointwise (w ∷ word) (b ∷ bytes) = ap (λ x. (b == w) && x) (begins-pointwise word bytes)

-- the clause of `strip_prefix`
pub past-strip : (word bytes : List ℕ) (found : Option (Bor (List ℕ))) →
    MatchOption found (pointwise nat_eq (take (length word) bytes) word ≡ false)
    (λ rest. (pointwise nat_eq (take (length word) bytes) word ≡ true) × (rest.now ≡ drop (length word) bytes) × (length rest.now + length word ≡ length bytes)) →
    option_map (λ rest. rest.now) found ≡ past word bytes
past-strip word bytes None is = rw (sym (begins-pointwise word bytes) ∙ is) refl
past-strip word bytes (Some rest) is = rw (sym (begins-pointwise word bytes) ∙ is.0) (ap Some is.1)

prefix_len-all : (passes : ℕ → Bool) (bytes : List ℕ) (b : ℕ) (rest : List ℕ) →
    list_all passes bytes ≡ true → passes b ≡ false → prefix_len passes (bytes ++ b ∷ rest) ≡ length bytes
prefix_len-all passes [] b rest all stops = rw stops refl
prefix_len-all passes (c ∷ bytes) b rest all stops =
    let parts = and_parts (passes c) (list_all passes bytes) all in
    rw (parts.0, prefix_len-all passes bytes b rest parts.1 stops) (omega arith)

-- all bytes up to the first that does not pass
pub some_while-all : (passes : ℕ → Bool) (bytes : List ℕ) (b : ℕ) (rest : List ℕ) → length bytes ≢ 0 →
    list_all passes bytes ≡ true → passes b ≡ false → some_while passes (bytes ++ b ∷ rest) ≡ Some (bytes, b ∷ rest)
some_while-all passes bytes b rest full all stops =
    rw (
      prefix_len-all passes bytes b rest all stops,
      ne_eqb (length bytes) 0 full,
      take-append_seam bytes (b ∷ rest),
      drop-append_seam bytes (b ∷ rest),
    ) refl

-- ---- a name is letters to its end

one_more : (passes all : Bool) (count size : ℕ) → (count == size) ≡ all →
    (cond passes (1 + count) 0 == suc size) ≡ (passes && all)
one_more true all count size same = grind (arith, nat_tests)
one_more false all count size same = grind (arith, nat_tests)

-- all elements pass exactly where as many pass at the front
all_pass : (passes : ℕ → Bool) (bytes : List ℕ) → (prefix_len passes bytes == length bytes) ≡ list_all passes bytes
all_pass passes [] = refl
all_pass passes (b ∷ bytes) = one_more (passes b) (list_all passes bytes) (prefix_len passes bytes) (length bytes) (all_pass passes bytes)

pub letters_to_the_end : (name : List ℕ) (letters : ℕ) → length name ≢ 0 → letters ≡ prefix_len is_ascii_lowercase name →
    (letters == length name) ≡ is_name name
letters_to_the_end [] letters full counted = absurd (full refl)
letters_to_the_end (b ∷ name) letters full counted = rw counted (all_pass is_ascii_lowercase (b ∷ name))
