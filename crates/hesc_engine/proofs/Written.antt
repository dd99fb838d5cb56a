-- What went out by the sink of a writer that had taken nothing.
use Rattle.std.proofs.Common.{◌≡◌, ℕ, List, [], length, ◌∙◌, ap, refl, arith}
use Rattle.std.specs.Prelude.{Option, Result, Ok, Err}
use Rattle.std.specs.Io.KnownBytes.{Appends}
use Rattle.hesc_sinks.specs.Took.{Seen, Took}
use Rattle.hesc_sinks.proofs.Told.{told-all}
use Rattle.hesc_engine.specs.Forms.{WritesText}

pub writes_text : {E : Type 0} (old new last : Option (List ℕ)) (start now : Seen) (made : List ℕ) (result : Result (Unit {0}) E) → start.taken ≡ [] → start.before ≡ old → last ≡ new
    → ∥ Appends now.before last now.taken ∥₁ → Took start now made result → WritesText old new made result
writes_text old new last start now made (Ok done) nothing before after told took = record {
  all = told-all old new now.before last now.taken made (took.same_before ∙ before) after (rw nothing at took.taken) told;
  began = tt;
  empty = λ none. refl;
}
writes_text old new last start now made (Err fault) nothing before after told took = record {
  all = tt;
  began = (took.taken.0, took.taken.1.1, told-all old new now.before last now.taken took.taken.0 (took.same_before ∙ before) after (rw nothing at took.taken.1.0) told);
  empty = λ none. absurd (omega (arith, took.full, ap length none));
}
