-- What may be reached of nodes as they are written, and which faults of a view some unrolling of them shows.
use Rattle.std.specs.Prelude.{◌≡◌, ⊤, ℕ, List, [], ◌∷◌, ◌++◌, Err}
use Rattle.html_template.specs.TemplateFaults.{template_of}
use Rattle.html_template.specs.Templates.{Given, GivenMarkup, GivenSlot}
use Rattle.html_template.specs.declared.faults.PartFault.{PartFault}
use Rattle.html_template.specs.declared.faults.TemplateFault.TheVariants as template
use Rattle.html_view.specs.Nodes as node
use Rattle.html_view.specs.Nodes.{Asked, Nodes, Opening}
use Rattle.html_view.specs.Reading.{PartialText}
use Rattle.html_view.specs.Spelled.{IsSpelled}
use Rattle.html_view.specs.declared.faults.Position.{Position}
use Rattle.html_view.specs.declared.faults.ViewFault.{ViewFault}
use Rattle.html_view.specs.declared.faults.ViewFault.TheVariants.{Part, Unfinished}
use Rattle.html_view.specs.declared.node.Times.{Times}
use Rattle.html_view.specs.declared.node.Times.TheVariants as times
use Rattle.html_view.specs.declared.node.Times.TheVariants.{Each, Whether}

-- what is read behind a body that stood: where it may be repeated, the same section, with nothing where it does not stand again
abbrev pub behind_body : Times → Opening → Nodes Asked → Nodes Asked → Nodes Asked
behind_body Each opening body rest = node.Section opening body node.End rest
behind_body other opening body rest = rest

-- the sections that stand, with one more: that around white space between two sides has the tag of the section within it, and that of
-- an attribute the tag of the section around it
abbrev pub told_with : Times → List Position → Position → List Position
told_with Whether standing position = standing
told_with times.Given standing position = standing
told_with other standing position = standing ++ position ∷ []

-- of these nodes this may be reached: the sections that stand so far, by their tags; markup and slots by turns, up to the last slot;
-- the markup since then; and what is still to be read, the innermost first
pub data Reaches (nodes : Nodes Asked) : List Position → List Given → List ℕ → List (Nodes Asked) → Type 0 where
  at_first : Reaches nodes [] [] [] (nodes ∷ [])
  past_markup : {standing : List Position} {parts : List Given} {markup bytes : List ℕ} {rest : Nodes Asked} {work : List (Nodes Asked)}
      → Reaches nodes standing parts markup (node.Markup bytes rest ∷ work) → Reaches nodes standing parts (markup ++ bytes) (rest ∷ work)
  past_slot : {standing : List Position} {parts : List Given} {markup : List ℕ} {slot : Asked} {rest : Nodes Asked} {work : List (Nodes Asked)}
      → Reaches nodes standing parts markup (node.Slot slot rest ∷ work)
      → Reaches nodes standing (parts ++ GivenMarkup markup ∷ GivenSlot ∷ []) [] (rest ∷ work)
  -- a fragment may be empty
  past_fragment : {standing : List Position} {parts : List Given} {markup : List ℕ} {slot : Asked} {rest : Nodes Asked} {work : List (Nodes Asked)}
      → Reaches nodes standing parts markup (node.Fragment slot rest ∷ work) → Reaches nodes standing parts markup (rest ∷ work)
  past_end : {standing : List Position} {parts : List Given} {markup : List ℕ} {work : List (Nodes Asked)}
      → Reaches nodes standing parts markup (node.End ∷ work) → Reaches nodes standing parts markup work
  -- a section stands
  within : {standing : List Position} {parts : List Given} {markup : List ℕ} {opening : Opening} {body otherwise rest : Nodes Asked} {work : List (Nodes Asked)}
      → Reaches nodes standing parts markup (node.Section opening body otherwise rest ∷ work)
      → Reaches nodes (told_with opening.times standing opening.position) parts markup (body ∷ behind_body opening.times opening body rest ∷ work)
  -- or it does not
  left_out : {standing : List Position} {parts : List Given} {markup : List ℕ} {opening : Opening} {body otherwise rest : Nodes Asked} {work : List (Nodes Asked)}
      → Reaches nodes standing parts markup (node.Section opening body otherwise rest ∷ work) → Reaches nodes standing parts markup (otherwise ∷ rest ∷ work)

-- as parts of a template these are refused, and why
abbrev pub AreRefused : List Given → PartFault → Type 0
AreRefused parts why = (number : ℕ) × (template_of parts ≡ Err (template.Part number why))

-- behind these parts the markup or the slot that is read next is refused. A slot stands where the fault is told
abbrev pub NextIsRefused : List Given → List ℕ → Nodes Asked → Position → PartFault → Type 0
NextIsRefused parts markup (node.Markup bytes rest) position why = AreRefused (parts ++ GivenMarkup (markup ++ bytes) ∷ []) why
NextIsRefused parts markup (node.Slot slot rest) position why =
    (position ≡ slot.position) × AreRefused (parts ++ GivenMarkup markup ∷ GivenSlot ∷ []) why
NextIsRefused parts markup other position why = ⊥

-- where these sections stand, and no others, the nodes are refused there
pub record RefusedWith (nodes : Nodes Asked) (standing : List Position) (position : Position) (why : PartFault) : Type 0 where
  pub parts : List Given
  pub markup : List ℕ
  pub next : Nodes Asked
  pub work : List (Nodes Asked)
  pub reached : Reaches nodes standing parts markup (next ∷ work)
  pub refused : NextIsRefused parts markup next position why

-- and where these stand, a page ends within a tag, a reference or an element
pub record UnfinishedWith (nodes : Nodes Asked) (standing : List Position) : Type 0 where
  pub parts : List Given
  pub markup : List ℕ
  pub reached : Reaches nodes standing parts markup []
  pub unfinished : template_of (parts ++ GivenMarkup markup ∷ []) ≡ Err template.Unfinished

-- the unrolling in which these sections stand shows the fault, if it is one of a part or of the end
abbrev pub Shows : Nodes Asked → List Position → ViewFault → Type 0
Shows nodes standing (Part position why) = RefusedWith nodes standing position why
Shows nodes standing Unfinished = UnfinishedWith nodes standing
Shows nodes standing other = ⊤

-- the same of the nodes of a source
abbrev pub ShowsOf : List PartialText → List ℕ → List Position → ViewFault → Type 0
ShowsOf partials source standing (Part position why) =
    (nodes : Nodes Asked) × IsSpelled partials source nodes × RefusedWith nodes standing position why
ShowsOf partials source standing Unfinished = (nodes : Nodes Asked) × IsSpelled partials source nodes × UnfinishedWith nodes standing
ShowsOf partials source standing other = ⊤
