-- What a store into bytes leaves.
use Rattle.std.specs.Prelude.{◌≡◌, ℕ, ◌+◌, List, ◌++◌, length, take}

-- the bytes up to a place stay, and some are stored from there up to an end
pub record Stored (old new : List ℕ) (place : ℕ) (bytes : List ℕ) (end : ℕ) : Type 0 where
  pub before : take end new ≡ take place old ++ bytes
  pub after : end ≡ place + length bytes
  pub long : length new ≡ length old
