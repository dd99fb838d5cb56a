-- Bytes up to the first that passes a test.
use Rattle.std.proofs.Common.{ℕ, suc, ◌≡◌, ◌<◌, ◌⊎◌, Bool, true, false, List, [], ◌∷◌, ◌++◌, length, take, inl, inr, refl, ap, arith}
use Rattle.std.proofs.lemmas.Bool.{cases_Bool}
use Rattle.std.specs.List.{list_any, position_or_len}

-- no byte passes
pub record IsWhole (test : ℕ → Bool) (bytes : List ℕ) : Type 0 where
  pub all : take (position_or_len test bytes) bytes ≡ bytes
  pub end : position_or_len test bytes ≡ length bytes
  pub none : list_any test bytes ≡ false

-- this byte is the first that does
pub record IsCut (test : ℕ → Bool) (bytes : List ℕ) : Type 0 where
  pub first : ℕ
  pub rest : List ℕ
  pub parts : bytes ≡ take (position_or_len test bytes) bytes ++ first ∷ rest
  pub passes : test first ≡ true
  pub within : position_or_len test bytes < length bytes
  pub none : list_any test (take (position_or_len test bytes) bytes) ≡ false

later : (test : ℕ → Bool) (b : ℕ) (bytes : List ℕ) → test b ≡ false → position_or_len test (b ∷ bytes) ≡ suc (position_or_len test bytes)
later test b bytes fails = rw fails (omega arith)

pub whole_or_cut : (test : ℕ → Bool) (bytes : List ℕ) → IsWhole test bytes ⊎ IsCut test bytes
whole_or_cut test [] = inl (record { all = refl; end = refl; none = refl })
whole_or_cut test (b ∷ bytes) =
    elim (cases_Bool (test b)) [
      | inl passes ↦ inr (record {
        first = b;
        rest = bytes;
        parts = rw passes refl;
        passes = passes;
        within = rw passes (omega arith);
        none = rw passes refl;
      })
      | inr fails ↦ let next = later test b bytes fails in
          elim (whole_or_cut test bytes) [
            | inl whole ↦ inl (record {
              all = rw next (ap (λ more. b ∷ more) whole.all);
              end = rw next (ap suc whole.end);
              none = rw fails whole.none;
            })
            | inr cut ↦ inr (record {
              first = cut.first;
              rest = cut.rest;
              parts = rw next (ap (λ more. b ∷ more) cut.parts);
              passes = cut.passes;
              within = let within = cut.within in rw next (omega arith);
              none = rw next (rw fails cut.none);
            })
          ]
    ]
