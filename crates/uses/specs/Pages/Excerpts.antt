-- An excerpt of a text.
use Rattle.std.specs.Prelude.{◌≡◌, ◌≤◌, ◌<◌, ℕ, List, ◌++◌, codes, length, take}
use Rattle.std.specs.Str.{IsCharBoundary}
use Rattle.html_escape.specs.Words.{encoded}
use Rattle.html_escape.specs.declared.encoder.Encoder.TheVariants.{Text}

-- the longest beginning of the text that has so many bytes at most and ends between two characters, encoded, and `...` if more follows
pub record IsExcerpt (text : List ℕ) (most : ℕ) (excerpt : List ℕ) : Type 0 where
  pub cut : ℕ
  pub bound : cut ≤ most
  pub boundary : IsCharBoundary text cut
  pub longest : (i : ℕ) → cut < i → i ≤ most → IsCharBoundary text i → ⊥
  pub whole : cut ≡ length text → excerpt ≡ encoded Text text
  pub shortened : cut < length text → excerpt ≡ encoded Text (take cut text) ++ codes "..."
