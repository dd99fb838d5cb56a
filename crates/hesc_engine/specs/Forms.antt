-- What the forms of an operation answer, and what they leave.
use Rattle.std.specs.Prelude.{◌≡◌, ◌≢◌, ◌≤◌, ⊤, ℕ, List, [], Option, Result, String, Vec, IfOk, IsOk, OnOk, OnErr, length, string_bytes}
use Rattle.std.specs.Borrow.{Bor, Fml, MutBor, follows_so, u8}
use Rattle.std.specs.Cow.{cow_str_bytes}
use Rattle.std.specs.Io.KnownBytes.{Appends}
use Rattle.std.specs.contracts.string.String as text
use Rattle.std.specs.contracts.vec.Vec as vec
use Rattle.std.specs.declared.alloc.Allocator.{Ghosts}
use Rattle.std.specs.declared.borrow.CowStr.{CowStr}
use Rattle.std.specs.declared.borrow.CowStr.TheVariants.{Borrowed, Owned}
use denote.RattleType.{RattleType}
use mathlib.Core.Option.{none}
use Rattle.hesc_specs.specs.Text.Beginning.{AppendsBeginning}
use Rattle.hesc_specs.specs.Text.Changes.{Change}
pub use Rattle.hesc_sinks.specs.Room.{Appended, string_room, vec_room}

-- it borrows exactly where nothing changes, and then the source itself
abbrev pub BorrowsUnchanged : {A : Type 0} → List ℕ → List Change → CowStr A → Type 0
BorrowsUnchanged source changes (Borrowed part) = (changes ≡ []) × (part.now ≡ source)
BorrowsUnchanged source changes (Owned made) = changes ≢ []

-- the answer is what was made of the source; where nothing changes, it comes without memory
pub record AnswersText {A E : Type 0} (source made : List ℕ) (changes : List Change) (result : Result (CowStr A) E) : Type 0 where
  pub text : IfOk result (λ cow. cow_str_bytes cow ≡ made)
  pub borrows : IfOk result (BorrowsUnchanged source changes)
  pub unchanged : changes ≡ [] → IsOk result

-- the answer is the part that was added; where there is room for it, it comes without memory
pub record AnswersPart {E : Type 0} (room : ℕ) (added : List ℕ) (result : Result (Bor (List ℕ)) E) : Type 0 where
  pub part : IfOk result (λ part. part.now ≡ added)
  pub fits : length added ≤ room → IsOk result

-- all of the text went out, or a beginning of it
pub record WritesText {E : Type 0} (old new : Option (List ℕ)) (made : List ℕ) (result : Result (Unit {0}) E) : Type 0 where
  pub all : OnOk result (Appends old new made)
  pub began : OnErr result (AppendsBeginning old new made)
  pub empty : made ≡ [] → IsOk result

-- a `String` and a `Vec<u8>` over an allocator, as the logic names them
abbrev pub string_row : (A : RattleType) → Ghosts A.Denot → RattleType
string_row A alloc = text.the_row A alloc

abbrev pub vec_row : (A : RattleType) → Ghosts A.Denot → RattleType
vec_row A alloc = vec.the_row u8 A alloc

-- once the answer is let go, the output has the bytes appended, or is as it was
abbrev pub StringAppended : {T E : Type 0} (A : RattleType) → Ghosts A.Denot → MutBor (String A.Denot) → List ℕ → Result T E → Fml
StringAppended A alloc output bytes result =
    follows_so (string_row A alloc) (string_row A alloc) output.ghost_name none (λ _ _. ⊤) (λ last. Appended (string_bytes output.now) (string_bytes last) bytes result)

abbrev pub VecAppended : {T E : Type 0} (A : RattleType) → Ghosts A.Denot → MutBor (Vec ℕ A.Denot) → List ℕ → Result T E → Fml
VecAppended A alloc output bytes result =
    follows_so (vec_row A alloc) (vec_row A alloc) output.ghost_name none (λ _ _. ⊤) (λ last. Appended output.now.items last.items bytes result)
