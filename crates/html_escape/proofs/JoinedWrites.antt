-- What writing in several calls comes to.
use Rattle.std.proofs.Common.{ℕ, List, [], ◌++◌, sym, ap, ◌∙◌, append_assoc, append-nil, Option}
use Rattle.std.proofs.KnownBytes.{Appends-trans}
use Rattle.std.specs.Io.KnownBytes.{Appends}
use Rattle.hesc_specs.specs.Text.Beginning.{AppendsBeginning}

-- all of it is a beginning
pub begins_all : (a b : Option (List ℕ)) (bytes : List ℕ) → Appends a b bytes → AppendsBeginning a b bytes
begins_all a b bytes written = (bytes, ([], append-nil bytes), written)

-- a beginning of the first bytes is one of them all
pub begins_first : (a b : Option (List ℕ)) (first next : List ℕ)
    → AppendsBeginning a b first → AppendsBeginning a b (first ++ next)
begins_first a b first next began =
    (began.0, (began.1.0 ++ next, sym (append_assoc began.0 began.1.0 next) ∙ ap (λ x. x ++ next) began.1.1), began.2)

-- the first bytes and a beginning of the next ones are one of them all
pub begins_later : (a b c : Option (List ℕ)) (first next : List ℕ)
    → Appends a b first → AppendsBeginning b c next → AppendsBeginning a c (first ++ next)
begins_later a b c first next written began = (
  first ++ began.0,
  (began.1.0, append_assoc first began.0 began.1.0 ∙ ap (λ x. first ++ x) began.1.1),
  Appends-trans a b c first began.0 written began.2,
)
