-- The nodes of a source, with each slot between the attributes of a start tag spelled out.
use Rattle.std.specs.Prelude.{◌≡◌, ℕ, List, if◌then◌else◌}
use Rattle.html_tokenizer.specs.declared.reader.Standing.{Standing}
use Rattle.html_tokenizer.specs.declared.reader.Standing.TheVariants.{InDeclaration, InJson, InLink, InListedUrl, InUrl, Stands}
use Rattle.html_tokenizer.specs.Standing.{is_between_attributes, past_json, standing, state_after_slot}
use Rattle.html_tokenizer.specs.Tokenizer.States.{Tokenizer, data_state}
use Rattle.html_tokenizer.specs.Tokenizer.Tokenization.{state_after}
use Rattle.html_view.specs.Attributes.{attributes}
use Rattle.html_view.specs.Kept.{Before}
use Rattle.html_view.specs.Nodes as node
use Rattle.html_view.specs.Nodes.{Asked, Nodes}
use Rattle.html_view.specs.Reading.{IsSource, PartialText}

-- ---- where nodes stand: each is read once, a body and then what follows it, and what stands where a body does not from before it

abbrev pub past_standing : Standing → Tokenizer → Tokenizer
past_standing (Stands p) t = state_after_slot p t
past_standing (InUrl p) t = state_after_slot p t
past_standing (InLink p) t = state_after_slot p t
past_standing (InListedUrl p) t = state_after_slot p t
past_standing (InDeclaration p) t = state_after_slot p t
past_standing InJson t = past_json t
past_standing other t = t

abbrev pub past_slot : Tokenizer → Tokenizer
past_slot t = past_standing (standing t) t

abbrev pub behind : Tokenizer → Nodes Asked → Tokenizer
behind t node.End = t
behind t (node.Markup bytes rest) = behind (state_after t bytes) rest
behind t (node.Slot slot rest) = behind (past_slot t) rest
behind t (node.Fragment slot rest) = behind t rest
behind t (node.Section opening body otherwise rest) = behind (behind t body) rest

-- ---- spelled out

abbrev pub spelled_slot : Tokenizer → Asked → Nodes Asked → Nodes Asked
spelled_slot t slot rest = if is_between_attributes t.state then attributes slot rest else node.Slot slot rest

abbrev pub spelled_from : Tokenizer → Nodes Asked → Nodes Asked
spelled_from t node.End = node.End
spelled_from t (node.Markup bytes rest) = node.Markup bytes (spelled_from (state_after t bytes) rest)
spelled_from t (node.Slot slot rest) = spelled_slot t slot (spelled_from (past_slot t) rest)
spelled_from t (node.Fragment slot rest) = node.Fragment slot (spelled_from t rest)
spelled_from t (node.Section opening body otherwise rest) =
    node.Section opening (spelled_from t body) (spelled_from t otherwise) (spelled_from (behind t body) rest)

abbrev pub spelled : Nodes Asked → Nodes Asked
spelled nodes = spelled_from data_state nodes

-- the nodes of a view of a source
pub record IsSpelled (partials : List PartialText) (source : List ℕ) (nodes : Nodes Asked) : Type 0 where
  pub asked : Nodes Asked
  pub is : IsSource partials source asked
  pub same : nodes ≡ spelled asked

-- as the code has it: from here to there these nodes are those, spelled out, whatever nodes follow
pub record Spells (asked made : Before Asked) (t u : Tokenizer) : Type 0 where
  pub same : (rest : Nodes Asked) → spelled_from t (asked rest) ≡ made (spelled_from u rest)
  pub goes : (rest : Nodes Asked) → behind t (asked rest) ≡ behind u rest
