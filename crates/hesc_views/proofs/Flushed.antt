-- What a flush leaves of a run.
use Rattle.std.proofs.Common.{◌≡◌, ℕ, List, Option, Result, Ok, Err, sym, subst}
use Rattle.std.specs.Prelude.{IsOk, MatchResult}
use Rattle.std.specs.Io.KnownBytes.{Keeps}
use Rattle.std.proofs.KnownBytes.{Appends-kept}
use Rattle.html_escape.proofs.JoinedWrites.{begins_all}
use Rattle.hesc_views.specs.Run.{RanAs}
use Rattle.hesc_views.specs.Sources.{Files}
use Rattle.hesc_views.specs.declared.faults.Fault.{Fault}
use Rattle.hesc_views.specs.declared.faults.Fault.TheVariants.{Write}

-- all was written, and a flush that fails is `Write`
pub flushed : {T E : Type 0} (files : Files) (words : List (List ℕ)) (reader reader' writer writer' after : Option (List ℕ)) (done : Unit {0})
    (flush : Result T E) (result : Result (Unit {0}) Fault) → RanAs files words reader reader' writer writer' (Ok done) → Keeps writer' after →
    MatchResult flush (λ _. IsOk result) (λ _. result ≡ Err Write) → RanAs files words reader reader' writer after result
flushed files words reader reader' writer writer' after done (Ok fine) (Ok ended) ran kept told =
    (ran.0, ran.1, Appends-kept _ _ _ _ ran.2 kept)
flushed files words reader reader' writer writer' after done (Ok fine) (Err fault) ran kept told = absurd (cc)
flushed files words reader reader' writer writer' after done (Err why) result ran kept told =
    subst (RanAs files words reader reader' writer after) (sym told) (ran.0, ran.1, begins_all writer after ran.0 (Appends-kept _ _ _ _ ran.2 kept))
