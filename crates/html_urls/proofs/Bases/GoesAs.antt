-- Markup behind a base that goes on as the base was taken for: by its first byte.
use Rattle.std.proofs.Common.{◌≡◌, ◌≢◌, ℕ, Bool, true, not, List, [], ◌∷◌, ◌++◌, Option, Some, None, codes, if◌then◌else◌, arith}
use Rattle.std.proofs.lemmas.Bool.Decides.{nat_tests}
use Rattle.html_urls.specs.declared.base.BehindBase.{BehindBase}
use Rattle.html_urls.specs.declared.base.BehindBase.TheVariants.{Slash, Tail, Segment}
use Rattle.html_urls.specs.Bases.{FillBehind, behind_base, behind_byte, goes_as, goes_on_so, is_same}
use Rattle.html_urls.specs.OpenParts.{begins}
use Rattle.html_urls.specs.Shapes.{front_of}
use Rattle.html_urls.specs.Slots.{Given}

-- texts that fill the parts behind a base stand behind markup that goes on so
pub behind_goes : (behind : BehindBase) (parts : List Given) (texts : List (List ℕ)) → FillBehind behind parts texts → goes_on_so behind (front_of parts) ≡ true
behind_goes behind parts texts full = grind (arith, nat_tests)

-- ---- the first byte

abbrev chosen : Bool → Bool → Bool → Option BehindBase
chosen slash tail word =
    if slash then Some Slash else (if tail then Some Tail else (if word then Some Segment else None))

-- ---- markup that goes on so, with more behind it

record GoesOnAs (behind : BehindBase) (b : ℕ) (rest : List ℕ) : Type 0 where
  first : is_same behind (behind_byte b) ≡ true
  below : not (begins (b ∷ rest) (codes "//")) ≡ true

-- but for a `/` that stands alone
pub goes_more : (behind : BehindBase) (text more : List ℕ) → goes_as behind text ≡ true → text ≢ 47 ∷ [] → goes_on_so behind (text ++ more) ≡ true
goes_more behind text more goes long = grind (arith, nat_tests)

-- where the URL ends behind it, that too
pub goes_alone : (behind : BehindBase) (text : List ℕ) → goes_as behind text ≡ true → goes_on_so behind (text ++ []) ≡ true
goes_alone behind text goes = grind (arith, nat_tests)

-- with the `/` the base is one that ends in `/`
pub slash_goes : (more : List ℕ) → goes_on_so Segment more ≡ true → goes_on_so Slash (47 ∷ more) ≡ true
slash_goes more goes = grind (arith, nat_tests)

pub slash_alone : (behind : BehindBase) → goes_as behind (47 ∷ []) ≡ true → behind ≡ Slash
slash_alone behind goes = grind (arith, nat_tests)

-- markup goes on in one way alone
pub same_behind : (behind : BehindBase) (markup : List ℕ) → goes_as behind markup ≡ true → behind_base markup ≡ Some behind
same_behind behind markup goes = grind (arith, nat_tests)
