-- Markup that is whole.
use Rattle.std.proofs.Common.{ℕ, ◌≡◌, Bool, true, false, if◌then◌else◌, List, [], ◌∷◌, ◌++◌, IsUtf8, refl, subst, sym, ap, ◌∙◌, append-nil}
use Rattle.html_escape.specs.Encoders.{encoded}
use Rattle.html_escape.specs.declared.encoder.Encoder.TheVariants as encoder
use Rattle.html_tokenizer.specs.declared.slot_place.SlotPlace.TheVariants as place
use Rattle.html_tokenizer.specs.Tokenizer.States.{data_state}
use Rattle.html_tokenizer.specs.Tokenizer.Tokenization.{state_after}
use Rattle.html_tokenizer.proofs.Passing.{state_after-append}
use Rattle.html_template.specs.Structure.{IsReadAs, IsWhole}
use Rattle.html_template.specs.Templates.{Chunk, Slot}
use Rattle.html_template.specs.declared.parts.SlotKind.TheVariants as kind
use Rattle.html_template.proofs.TemplateLaw.{pieces_pass}

pub whole_behind : (first second : List ℕ) → IsWhole first → IsWhole second → IsWhole (first ++ second)
whole_behind first second one two = state_after-append data_state first second ∙ ap (λ t. state_after t second) one ∙ two

-- a page, by how it is read
pub page_whole : (chunks : List Chunk) (texts : List (List ℕ)) (bytes : List ℕ) → IsReadAs chunks texts bytes → IsWhole bytes
page_whole chunks texts bytes read = ap (state_after data_state) (sym (append-nil bytes)) ∙ read.ends []

pub text_whole : (text : List ℕ) → IsUtf8 text → IsWhole (encoded encoder.Text text)
text_whole text utf8 =
    ap (state_after data_state) (sym (append-nil (encoded encoder.Text text)))
    ∙ (pieces_pass (Slot place.Text kind.Text ∷ []) data_state (text ∷ []) refl (tt, tt) (utf8, tt)).after

-- where it was appended, or nothing was
pub whole_appended : (added : Bool) (old more new : List ℕ) → new ≡ (if added then old ++ more else old) → IsWhole old → IsWhole more → IsWhole new
whole_appended true old more new is one other = subst IsWhole (sym is) (whole_behind old more one other)
whole_appended false old more new is one other = subst IsWhole (sym is) one
