-- Where a text was appended to a text, a character begins, and the whole is a text.
use Rattle.std.proofs.Common.{◌≡◌, ℕ, ◌≤◌, List, ◌++◌, length, take, subst, sym, arith, length-append}
use Rattle.std.specs.Prelude.{Result, Ok, Err, OnOk}
use Rattle.std.specs.Str.{IsCharBoundary, IsUtf8}
use Rattle.std.proofs.lemmas.Str.{IsCharBoundary-from_take, IsUtf8-append}
use Rattle.std.proofs.Math.Seq.{take-append_seam}
use Rattle.hesc_engine.specs.Forms.{Appended}

pub seam : (before after added : List ℕ) (at : ℕ) → IsUtf8 before → IsUtf8 after → after ≡ before ++ added → at ≡ length before → IsCharBoundary after at
seam before after added at before_text after_text is there =
    let within : length before ≤ length after = rw (is, length-append) (omega arith) in
    let front : take (length before) after ≡ before = rw is (take-append_seam before added) in
    rw there (IsCharBoundary-from_take after (length before) after_text within (subst IsUtf8 (sym front) before_text))

-- a text with a text appended, or as it was, is a text
pub text_appended : {T E : Type 0} (result : Result T E) (old new added : List ℕ) → Appended old new added result → OnOk result (IsUtf8 added) → IsUtf8 old → IsUtf8 new
text_appended (Ok v) old new added is more before = rw is (IsUtf8-append old added before more)
text_appended (Err e) old new added is more before = rw is before
