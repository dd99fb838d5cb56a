-- What a page comes to by one write more.
use Rattle.std.proofs.Common.{◌≡◌, ℕ, List, [], ◌∷◌, ◌++◌, Option, Some, None, Result, Ok, Err, Bool, true, false, refl}
use Rattle.std.proofs.KnownBytes.{Appends-trans}
use Rattle.std.specs.Option.{is_none}
use Rattle.std.specs.Prelude.{IsOk}
use Rattle.std.specs.Result.{result_err}
use Rattle.hesc_engine.specs.Forms.{WritesText}
use Rattle.html_escape.proofs.JoinedWrites.{begins_first, begins_later}
use Rattle.html_writer.specs.PageWrites.{WentOut}

first_empty : (first next : List ℕ) → first ++ next ≡ [] → first ≡ []
first_empty [] next none = refl
first_empty (b ∷ first) next none = absurd (cc)

next_empty : (first next : List ℕ) → first ++ next ≡ [] → next ≡ []
next_empty [] next none = none
next_empty (b ∷ first) next none = absurd (cc)

no_fault : {E : Type 0} (fault : E) → IsOk {T = Unit {0}} {E = E} (Err fault) → ⊥
no_fault fault ok = absurd (cc)

-- by a write without a fault before it
pub written_more : {E : Type 0} (fault : Option E) (result : Result (Unit {0}) E) (start before after : Option (List ℕ)) (text more : List ℕ) →
    is_none fault ≡ true → WentOut fault start before text → WritesText before after more result → WentOut (result_err result) start after (text ++ more)
written_more None (Ok done) start before after text more none out writes = Appends-trans start before after text more out writes.all
written_more None (Err fault) start before after text more none out writes =
    ((λ empty. no_fault fault (writes.empty (next_empty text more empty))), begins_later start before after text more out writes.began)
written_more (Some fault) result start before after text more none out writes = absurd (cc)

-- by one that is left out, after a fault
pub left_out : {E : Type 0} (fault : Option E) (start contents : Option (List ℕ)) (text more : List ℕ) →
    is_none fault ≡ false → WentOut fault start contents text → WentOut fault start contents (text ++ more)
left_out None start contents text more some out = absurd (cc)
left_out (Some fault) start contents text more some out =
    ((λ empty. out.0 (first_empty text more empty)), begins_first start contents text more out.1)
