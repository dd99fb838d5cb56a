-- What a sink did with some bytes.
use Rattle.std.specs.Prelude.{◌≡◌, ◌≤◌, ◌<◌, ◌+◌, ◌-◌, ℕ, List, ◌++◌, length, Option, Some, Result, Ok, Err}
use Rattle.std.specs.Borrow.{GName}
use Rattle.hesc_specs.specs.Text.Beginning.{TookBeginning}

-- what contracts see of a sink: the bytes that it took, the number of its failures, how many more it takes without failing, the reference that it writes to, and what stood there at first, where that is known
pub record Seen : Type 0 where
  pub taken : List ℕ
  pub failures : ℕ
  pub room : ℕ
  pub reference : GName
  pub before : Option (List ℕ)

-- what does not change while texts are stored in a room: what stood there at first, how long it may become with them, and the reference that it is
pub record Setting : Type 0 where
  pub start : List ℕ
  pub limit : ℕ
  pub reference : GName

-- what is seen of a sink that has stored up to an end
abbrev pub seen_in : Setting → ℕ → List ℕ → ℕ → Seen
seen_in setting end taken failures = record {
  taken = taken;
  failures = failures;
  room = setting.limit - end;
  reference = setting.reference;
  before = Some setting.start;
}

-- all of the bytes were taken, and no more room is lost than they need
pub record TookAll (old new : Seen) (bytes : List ℕ) : Type 0 where
  pub taken : new.taken ≡ old.taken ++ bytes
  pub failures : new.failures ≡ old.failures
  pub room : old.room ≤ new.room + length bytes
  pub same_reference : new.reference ≡ old.reference
  pub same_before : new.before ≡ old.before

-- or after a fault a beginning of them, where there was not room for all
pub record TookSome (old new : Seen) (bytes : List ℕ) : Type 0 where
  pub taken : TookBeginning old.taken new.taken bytes
  pub failures : new.failures ≡ old.failures + 1
  pub full : old.room < length bytes
  pub same_reference : new.reference ≡ old.reference
  pub same_before : new.before ≡ old.before

abbrev pub Took : {T E : Type 0} → Seen → Seen → List ℕ → Result T E → Type 0
Took old new bytes (Ok done) = TookAll old new bytes
Took old new bytes (Err fault) = TookSome old new bytes
