-- What a state and an attribute hold: nothing in a reference, and in two running tokenizers in one state the same.
use Rattle.std.proofs.Common.{ℕ, ◌≡◌, List, refl, ap, ◌∙◌}
use Rattle.html_tokenizer.specs.declared.states.Kind.{Kind}
use Rattle.html_tokenizer.specs.declared.states.Kind.TheVariants.{Ordinary, Forbidden, Link, Url, FixedUrl}
use Rattle.html_tokenizer.specs.declared.states.Phase.{Phase}
use Rattle.html_tokenizer.specs.declared.states.Phase.TheVariants as phase
use Rattle.html_tokenizer.specs.Tokenizer.Attributes.{reference_read}
use Rattle.html_tokenizer.specs.Tokenizer.Phases.{HoldsLetters, attribute_in, HoldsNoWord, state_of, tokenizer_of}
use Rattle.html_tokenizer.specs.Tokenizer.States as state
use Rattle.html_tokenizer.specs.Tokenizer.Stretches.{IsSettled}
use Rattle.html_tokenizer.specs.declared.reader.Reader.{Reader}
use Rattle.html_tokenizer.specs.Tokenizer.States.{at_value}

pub reference_read_held : (kind : Kind) (before word : List ℕ) →
    reference_read (attribute_in kind before) ≡ reference_read (attribute_in kind word)
reference_read_held Ordinary before word = refl
reference_read_held other before word = refl

pub settled_held : (kind : Kind) (before word : List ℕ) → IsSettled kind → attribute_in kind before ≡ attribute_in kind word
settled_held Ordinary before word settled = refl
settled_held Forbidden before word settled = refl
settled_held Link before word settled = refl
settled_held Url before word settled = refl
settled_held FixedUrl before word settled = refl
settled_held other before word settled = absurd settled

pub ordinary_holds : (p : Phase) → HoldsLetters p state.Ordinary
ordinary_holds (phase.Within p) = refl
ordinary_holds other = refl

-- ---- two running tokenizers in one state

pub same_reader : {A : Type 0} (first second : Reader A) → first.phase ≡ second.phase → first.content ≡ second.content → first.kind ≡ second.kind →
    ((word other : List ℕ) → HoldsNoWord (state_of first.phase word) (state_of first.phase other) (attribute_in first.kind word) (attribute_in first.kind other)) →
    tokenizer_of first ≡ tokenizer_of second
same_reader first second phase content kind none =
    let held = none first.word.items second.word.items in
    ap (λ s. at_value s first.content (attribute_in first.kind first.word.items)) held.0
    ∙ ap (λ a. at_value (state_of first.phase second.word.items) first.content a) held.1
    ∙ ap (λ p. at_value (state_of p second.word.items) first.content (attribute_in first.kind second.word.items)) phase
    ∙ ap (λ c. at_value (state_of second.phase second.word.items) c (attribute_in first.kind second.word.items)) content
    ∙ ap (λ k. at_value (state_of second.phase second.word.items) second.content (attribute_in k second.word.items)) kind

pub same_word : {A : Type 0} (first second : Reader A) → first.phase ≡ second.phase → first.content ≡ second.content → first.kind ≡ second.kind →
    first.word.items ≡ second.word.items → tokenizer_of first ≡ tokenizer_of second
same_word first second phase content kind word =
    ap (λ w. at_value (state_of first.phase w) first.content (attribute_in first.kind w)) word
    ∙ ap (λ p. at_value (state_of p second.word.items) first.content (attribute_in first.kind second.word.items)) phase
    ∙ ap (λ c. at_value (state_of second.phase second.word.items) c (attribute_in first.kind second.word.items)) content
    ∙ ap (λ k. at_value (state_of second.phase second.word.items) second.content (attribute_in k second.word.items)) kind
