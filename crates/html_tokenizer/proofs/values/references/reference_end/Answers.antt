use Rattle.std.proofs.Common.{ℕ, ◌≡◌, false, List, [], ◌∷◌, length, refl, arith}
use Rattle.html_tokenizer.specs.declared.elements.Content.{Content}
use Rattle.html_tokenizer.specs.declared.slot_place.SlotPlace.{SlotPlace}
use Rattle.html_tokenizer.specs.declared.states.Move.{Move}
use Rattle.html_tokenizer.specs.Tokenizer.Phases.{LeadsOn, moved}
use Rattle.html_tokenizer.specs.Tokenizer.States.{Attribute}
use Rattle.html_tokenizer.specs.Tokenizer.Transitions.{Transition}
use Rattle.html_tokenizer.specs.Tokenizer.Values.References.{begins_with_legacy, reference_end}
use Rattle.html_tokenizer.proofs.values.references.reference_end.Goals as goal

none_begins : begins_with_legacy [] ≡ false
unfolding begins_with_legacy
none_begins = refl

nothing_held : (p : SlotPlace) (content : Content) (attribute : Attribute) (word : List ℕ) (b : ℕ) (again fixed : Move) (t : Transition) → length word ≡ 0 →
    LeadsOn again fixed word t → moved again word ≡ (reference_end p content attribute word b t).next
nothing_held p content attribute [] b again fixed t none leads = leads.other none_begins
nothing_held p content attribute (first ∷ word) b again fixed t none leads = absurd (omega arith)

pub returns-in-empty : goal.returns-in-empty
returns-in-empty c = λ t leads. nothing_held c.args.place c.args.content _ c.args.word.now c.args.byte c.args.again c.args.fixed t (omega arith) leads
