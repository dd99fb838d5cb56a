-- What is decided of a body and what is partial: whatever follows, nothing is lost of the encoding.
use Rattle.std.proofs.Common.{ℕ, ◌≡◌, Bool, true, false, List, [], ◌∷◌, ◌++◌, refl, sym, ap, ◌∙◌, append_assoc, inl, inr, arith}
use Rattle.std.proofs.lemmas.Bool.Decides.{nat_tests}
use Rattle.std.proofs.lemmas.Bool.{cases_Bool}
use Rattle.std.proofs.lemmas.List.{append-nil}
use Rattle.std.proofs.lemmas.Str.{IsUtf8-append, IsUtf8-nil}
use Rattle.std.specs.List.{concat}
use Rattle.std.specs.Prelude.{codes}
use Rattle.std.specs.Str.{IsUtf8}
use Rattle.hesc_specs.specs.Bodies.Encoding.{body_encoding}
use Rattle.hesc_specs.specs.Bodies.Openings.{is_opening}
use Rattle.hesc_specs.specs.Bodies.Sessions.{is_partial, partial_end, decided_encoding, IsStep, IsSession, IsTextSession}
use Rattle.hesc_specs.specs.Text.Words.{begins_in_any_case}
use Rattle.hesc_specs.specs.declared.elements.Element.{Element}
use Rattle.hesc_specs.proofs.Bodies.Openings.{passes}

-- the last letter of a comment's opening, as what follows the first two
abbrev dash_follows : List ℕ → Bool
dash_follows bytes = begins_in_any_case (codes "-") passes bytes

-- whether an opening begins is decided where the bytes are not partial
pub is_opening-decided : (element : Element) (bytes rest : List ℕ) → is_partial element bytes ≡ false → is_opening element (bytes ++ rest) ≡ is_opening element bytes
is_opening-decided element bytes rest decided = grind (arith, nat_tests)

-- the encoding of a text and what follows it
pub body_encoding-decided : (element : Element) (text rest : List ℕ)
    → body_encoding element (text ++ rest) ≡ decided_encoding element text ++ body_encoding element (partial_end element text ++ rest)
body_encoding-decided element [] rest = refl
body_encoding-decided element (b ∷ text) rest =
    let later : body_encoding element (text ++ rest) ≡ decided_encoding element text ++ body_encoding element (partial_end element text ++ rest) = body_encoding-decided element text rest in
    elim (cases_Bool (is_partial element (b ∷ text))) [
      | inl undecided ↦ rw undecided refl
      | inr decided ↦
          rw (is_opening-decided element (b ∷ text) rest decided)
          (rw decided
          (elim (cases_Bool (is_opening element (b ∷ text))) [
            | inl opens ↦ rw opens (rw later refl)
            | inr plain ↦ rw plain (rw later refl)
          ]))
    ]

pub partial_end-partial : (element : Element) (text : List ℕ) → is_partial element (partial_end element text) ≡ true
partial_end-partial element [] = refl
partial_end-partial element (b ∷ text) =
    elim (cases_Bool (is_partial element (b ∷ text))) [
      | inl undecided ↦ rw undecided undecided
      | inr decided ↦ rw decided (partial_end-partial element text)
    ]

-- to add what is decided and to hold what is partial is a step
pub decided-step : (element : Element) (held piece : List ℕ) → IsStep element held piece (partial_end element (held ++ piece)) (decided_encoding element (held ++ piece))
decided-step element held piece = (
  λ rest. rw (sym (append_assoc held piece rest)) (body_encoding-decided element (held ++ piece) rest),
  partial_end-partial element (held ++ piece),
)

-- what is partial as a whole: nothing of it is decided
pub partial-whole : (element : Element) (text : List ℕ) → is_partial element text ≡ true → partial_end element text ≡ text
partial-whole element text undecided = grind (arith, nat_tests)

pub partial-nothing : (element : Element) (text : List ℕ) → is_partial element text ≡ true → decided_encoding element text ≡ []
partial-nothing element text undecided = grind (arith, nat_tests)

-- all that a session adds, from some held bytes on
session-from : (element : Element) (held : List ℕ) (pieces : List (List ℕ)) (all : List ℕ) → IsSession element held pieces all → all ≡ body_encoding element (held ++ concat pieces)
session-from element held [] all session = session ∙ ap (body_encoding element) (sym (append-nil held))
session-from element held (piece ∷ pieces) all (held', added, later, step, goes_on, joined) =
    joined ∙ (ap (λ x. added ++ x) (session-from element held' pieces later goes_on) ∙ sym (step.0 (concat pieces)))

-- all that a session adds is the encoding of its joined pieces
pub session-joined : (element : Element) (pieces : List (List ℕ)) (all : List ℕ) → IsSession element [] pieces all → all ≡ body_encoding element (concat pieces)
session-joined element pieces all session = session-from element [] pieces all session

-- the joined pieces of a session over texts are a text
pieces-text : (element : Element) (held : List ℕ) (pieces : List (List ℕ)) (all : List ℕ) → IsTextSession element held pieces all → IsUtf8 (concat pieces)
pieces-text element held [] all session = IsUtf8-nil
pieces-text element held (piece ∷ pieces) all (held', added, later, text, step, goes_on, joined) =
    IsUtf8-append piece (concat pieces) text (pieces-text element held' pieces later goes_on)

text_session-from : (element : Element) (held : List ℕ) (pieces : List (List ℕ)) (all : List ℕ) → IsTextSession element held pieces all → all ≡ body_encoding element (held ++ concat pieces)
text_session-from element held [] all session = session ∙ ap (body_encoding element) (sym (append-nil held))
text_session-from element held (piece ∷ pieces) all (held', added, later, text, step, goes_on, joined) =
    joined ∙ (ap (λ x. added ++ x) (text_session-from element held' pieces later goes_on) ∙ sym (step.0 (concat pieces) (pieces-text element held' pieces later goes_on)))

-- all that a session over texts adds is the encoding of its joined pieces
pub text_session-joined : (element : Element) (pieces : List (List ℕ)) (all : List ℕ) → IsTextSession element [] pieces all → all ≡ body_encoding element (concat pieces)
text_session-joined element pieces all session = text_session-from element [] pieces all session
