-- What a sink took of one piece after another.
use Rattle.std.proofs.Common.{◌≡◌, ◌≤◌, ◌<◌, ◌+◌, ℕ, List, [], ◌++◌, length, length-append, refl, sym, ap, ◌∙◌, append_assoc, append-nil, arith}
use Rattle.std.specs.Prelude.{Result, Ok, Err, IsErr, IsOk}
use Rattle.hesc_specs.specs.Text.Beginning.{TookBeginning}
use Rattle.hesc_sinks.specs.Took.{Seen, Took, TookAll, TookSome}

-- a beginning of what comes first is a beginning of all
pub TookBeginning-front : (old new first later : List ℕ) → TookBeginning old new first → TookBeginning old new (first ++ later)
TookBeginning-front old new first later took =
    let c = took.1.1.0 in
    (took.0, (took.1.0, (c ++ later, sym (append_assoc took.0 c later) ∙ ap (λ (bytes : List ℕ). bytes ++ later) took.1.1.1)))

-- and so is what comes first, taken whole, with a beginning of the rest
pub TookBeginning-following : (old now new first later : List ℕ) → now ≡ old ++ first → TookBeginning now new later → TookBeginning old new (first ++ later)
TookBeginning-following old now new first later whole took =
    let a = took.0 in let c = took.1.1.0 in
    (first ++ a, (took.1.0 ∙ rw whole (append_assoc old first a), (c, append_assoc first a c ∙ ap (λ (bytes : List ℕ). first ++ bytes) took.1.1.1)))

-- nothing
pub nothing : (old : Seen) (bytes : List ℕ) → bytes ≡ [] → TookAll old old bytes
nothing old bytes none = record {
  taken = sym (rw none (append-nil old.taken));
  failures = refl;
  room = omega arith;
  same_reference = refl;
  same_before = refl;
}

-- a fault after nothing
pub nothing_failed : (old new : Seen) (bytes : List ℕ) → new.taken ≡ old.taken → new.failures ≡ old.failures + 1 → old.room < length bytes → new.reference ≡ old.reference → new.before ≡ old.before → TookSome old new bytes
nothing_failed old new bytes same failed full same_reference same_before = record {
  taken = ([], (same ∙ sym (append-nil old.taken), (bytes, refl)));
  failures = failed;
  full = full;
  same_reference = same_reference;
  same_before = same_before;
}

-- two pieces
pub both_all : (old middle new : Seen) (first second : List ℕ) → TookAll old middle first → TookAll middle new second → TookAll old new (first ++ second)
both_all old middle new first second one two = record {
  taken = two.taken ∙ ap (λ bytes. bytes ++ second) one.taken ∙ append_assoc old.taken first second;
  failures = two.failures ∙ one.failures;
  room = omega (arith, one.room, two.room, length-append first second);
  same_reference = two.same_reference ∙ one.same_reference;
  same_before = two.same_before ∙ one.same_before;
}

-- the first piece, and then a beginning of the second
pub both_some : (old middle new : Seen) (first second : List ℕ) → TookAll old middle first → TookSome middle new second → TookSome old new (first ++ second)
both_some old middle new first second one two = record {
  taken = TookBeginning-following old.taken middle.taken new.taken first second one.taken two.taken;
  failures = omega (arith, one.failures, two.failures);
  full = omega (arith, one.room, two.full, length-append first second);
  same_reference = two.same_reference ∙ one.same_reference;
  same_before = two.same_before ∙ one.same_before;
}

-- a beginning of the first piece
pub first_some : (old new : Seen) (first second : List ℕ) → TookSome old new first → TookSome old new (first ++ second)
first_some old new first second took = record {
  taken = TookBeginning-front old.taken new.taken first second took.taken;
  failures = took.failures;
  full = omega (arith, took.full, length-append first second);
  same_reference = took.same_reference;
  same_before = took.same_before;
}

-- the first piece, and then what becomes of the second
pub both : {U F : Type 0} (old middle new : Seen) (first second : List ℕ) (result : Result U F) → TookAll old middle first → Took middle new second result → Took old new (first ++ second) result
both old middle new first second (Ok last) one two = both_all old middle new first second one two
both old middle new first second (Err fault) one two = both_some old middle new first second one two

-- a fault of the first piece is one of both
pub first_failed : {U F : Type 0} (old new : Seen) (first second : List ℕ) (result : Result U F) (same : F) → result ≡ Err same → TookSome old new first → Took old new (first ++ second) result
first_failed old new first second (Ok done) same is took = cc
first_failed old new first second (Err other) same is took = first_some old new first second took

-- a result that is a fault, whichever
pub failed : {U F : Type 0} (old new : Seen) (bytes : List ℕ) (result : Result U F) → IsErr result → TookSome old new bytes → Took old new bytes result
failed old new bytes (Ok done) is took = absurd (cc)
failed old new bytes (Err fault) is took = took

-- what holds whether or not there was a fault
pub took_reference : {U F : Type 0} (old new : Seen) (bytes : List ℕ) (result : Result U F) → Took old new bytes result → new.reference ≡ old.reference
took_reference old new bytes (Ok done) took = took.same_reference
took_reference old new bytes (Err fault) took = took.same_reference

pub took_before : {U F : Type 0} (old new : Seen) (bytes : List ℕ) (result : Result U F) → Took old new bytes result → new.before ≡ old.before
took_before old new bytes (Ok done) took = took.same_before
took_before old new bytes (Err fault) took = took.same_before

-- and where there was none
pub took_taken : {U F : Type 0} (old new : Seen) (bytes : List ℕ) (result : Result U F) → Took old new bytes result → IsOk result → new.taken ≡ old.taken ++ bytes
took_taken old new bytes (Ok done) took ok = took.taken
took_taken old new bytes (Err fault) took ok = absurd (cc)

-- where there was room, there was no fault
pub fits : {U F : Type 0} (old new : Seen) (bytes : List ℕ) (result : Result U F) → Took old new bytes result → length bytes ≤ old.room → IsOk result
fits old new bytes (Ok done) took enough = refl
fits old new bytes (Err fault) took enough = absurd (omega (arith, took.full))

-- for calls after which more may come, and for a result that is looked at later
pub ruleset pieces = (both, first_failed)

pub ruleset outcomes = (fits, took_taken, took_reference, took_before)

-- how far a sink has come with a text: what it took since it began, and the rest that is still to come
pub record Progress (old now : Seen) (rest text : List ℕ) : Type 0 where
  pub done : List ℕ
  pub took : TookAll old now done
  pub left : done ++ rest ≡ text

pub Progress-none : (old : Seen) (text : List ℕ) → Progress old old text text
Progress-none old text = record { done = []; took = nothing old [] refl; left = refl }

-- after the next piece it has come so much further
pub Progress-more : {old now : Seen} {rest text : List ℕ} → Progress old now rest text → (piece later : List ℕ) (new : Seen) → rest ≡ piece ++ later → TookAll now new piece → Progress old new later text
Progress-more {old = old} {now = now} progress piece later new first took = record {
  done = progress.done ++ piece;
  took = both_all old now new progress.done piece progress.took took;
  left = append_assoc progress.done piece later ∙ ap (λ bytes. progress.done ++ bytes) (sym first) ∙ progress.left;
}

-- a beginning of the next piece is one of the text
pub Progress-stop : {old now : Seen} {rest text : List ℕ} → Progress old now rest text → (piece later : List ℕ) (new : Seen) → rest ≡ piece ++ later → TookSome now new piece → TookSome old new text
Progress-stop {old = old} {now = now} progress piece later new first took = rw (← progress.left, first) (both_some old now new progress.done (piece ++ later) progress.took (first_some now new piece later took))

-- where nothing is left, all was taken
pub Progress-all : {old now : Seen} {rest text : List ℕ} → Progress old now rest text → rest ≡ [] → TookAll old now text
Progress-all progress none = rw (← progress.left, none, append-nil) progress.took

-- and what becomes of the rest is what becomes of the text
pub Progress-end : {U F : Type 0} {old now : Seen} {rest text : List ℕ} → Progress old now rest text → (last : List ℕ) (new : Seen) (result : Result U F) → rest ≡ last → Took now new last result → Took old new text result
Progress-end {old = old} {now = now} progress last new result is took = rw (← progress.left, is) (both old now new progress.done last result progress.took took)
