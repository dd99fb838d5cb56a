-- The tokens of a page, but for characters and values, are those of its structure.
use Rattle.std.proofs.Common.{ℕ, ◌≡◌, true, false, List, [], ◌∷◌, ◌++◌, Some, map, IsUtf8, refl, ap, ◌∙◌, append-nil, arith, inl, inr}
use Rattle.std.proofs.lemmas.Bool.Decides.{nat_tests}
use Rattle.std.proofs.lemmas.Bool.{cases_Bool}
use Rattle.std.specs.List.{AllByRecursion}
use Rattle.std.proofs.lemmas.List.{map-append}
use Rattle.std.proofs.lemmas.List.Elements.{filter-append}
use Rattle.html_tokenizer.specs.Tokenizer.Actions.{Action, EmitByte, ValueByte, StringByte}
use Rattle.html_tokenizer.specs.Tokenizer.States.{data_state}
use Rattle.html_template.specs.Structure.{is_structure, structure}
use Rattle.html_template.specs.Templates.{Chunk, Fill, page, state_after_all}
use Rattle.html_tokenizer.specs.Tokenizer.Tokenization.{actions_of}
use Rattle.html_tokenizer.specs.Tokens.{Attribute, Doctype, Tag, Token, Building, Character, bare_tag, build, built, emits, longer_identifier, longer_name, nothing, skeleton, tokens}
use Rattle.html_template.proofs.Structure.{structure_of_page}

-- what is built is the same but for characters and values
record Alike (s r : Building) : Type 0 where
  emitted : skeleton s.emitted ≡ skeleton r.emitted
  doctype : s.doctype ≡ r.doctype
  tag : bare_tag s.tag ≡ bare_tag r.tag
  comment : s.comment ≡ r.comment

no : true ≡ false → ⊥
no h = cc

skeleton-append : (first second : List Token) → skeleton (first ++ second) ≡ skeleton first ++ skeleton second
skeleton-append first second = grind (arith, nat_tests, map, filter-append, map-append)

both_emit : {s r : Building} (x y : Token) → Alike s r → skeleton (x ∷ []) ≡ skeleton (y ∷ []) → Alike (emits x s) (emits y r)
both_emit x y alike same = grind (arith, nat_tests, skeleton-append)

with_bare : List Attribute → Tag → Tag
with_bare attributes t = record t { attributes = attributes }

changed_tag : {s r : Building} (f : Tag → Tag) (g : Tag → Tag) → ((t : Tag) → bare_tag (f t) ≡ g (bare_tag t)) → Alike s r →
    Alike (record s { tag = f s.tag }) (record r { tag = f r.tag })
changed_tag f g same alike = grind (arith, nat_tests)

changed_doctype : {s r : Building} (f : Doctype → Doctype) → Alike s r →
    Alike (record s { doctype = f s.doctype }) (record r { doctype = f r.doctype })
changed_doctype f alike = record { emitted = alike.emitted; doctype = ap f alike.doctype; tag = alike.tag; comment = alike.comment }

with_empty_public : Doctype → Doctype
with_empty_public d = record d { public_identifier = Some [] }

with_longer_public : ℕ → Doctype → Doctype
with_longer_public b d = record d { public_identifier = longer_identifier b d.public_identifier }

with_empty_system : Doctype → Doctype
with_empty_system d = record d { system_identifier = Some [] }

with_longer_system : ℕ → Doctype → Doctype
with_longer_system b d = record d { system_identifier = longer_identifier b d.system_identifier }

named : ℕ → Tag → Tag
named b t = record t { name = t.name ++ b ∷ [] }

closing : Tag → Tag
closing t = record t { self_closing = true }

begun : Tag → Tag
begun t = record t { attributes = record { name = []; value = [] } ∷ t.attributes }

longer : ℕ → Tag → Tag
longer b t = record t { attributes = longer_name b t.attributes }

-- a byte of a value changes nothing
value_alike : {s r : Building} (b : ℕ) → Alike s r → Alike (built s (ValueByte b)) r
unfolding with_bare
value_alike b alike = grind (arith, nat_tests)

-- an action, at both
alike_both : {s r : Building} (action : Action) → Alike s r → Alike (built s action) (built r action)
unfolding named closing begun longer with_bare with_empty_public with_longer_public with_empty_system with_longer_system
alike_both action alike = grind (arith, nat_tests, changed_doctype, with_empty_public, with_longer_public, with_empty_system, with_longer_system, both_emit, changed_tag, named)

-- an action that is not of the structure changes nothing
alike_values : {s r : Building} (action : Action) → is_structure action ≡ false → Alike s r → Alike (built s action) r
alike_values {s} {r} (EmitByte b) value alike = record {
  emitted = skeleton-append s.emitted (Character b ∷ []) ∙ append-nil (skeleton s.emitted) ∙ alike.emitted;
  doctype = alike.doctype;
  tag = alike.tag;
  comment = alike.comment;
}
alike_values (ValueByte b) value alike = value_alike b alike
alike_values (StringByte b) value alike = record { emitted = alike.emitted; doctype = alike.doctype; tag = alike.tag; comment = alike.comment }
alike_values other value alike = absurd (no value)

alike_all : (actions : List Action) {s r : Building} → Alike s r → Alike (build s actions) (build r (structure actions))
alike_all [] alike = alike
alike_all (action ∷ actions) alike =
    elim (cases_Bool (is_structure action)) [ inl is ↦ rw is (alike_all actions (alike_both action alike)) | inr value ↦ rw value (alike_all actions (alike_values action value alike)) ]

skeleton-structure : (actions : List Action) → skeleton (tokens actions) ≡ skeleton (tokens (structure actions))
skeleton-structure actions = (alike_all actions {s = nothing} {r = nothing} (record { emitted = refl; doctype = refl; tag = refl; comment = refl })).emitted

pub skeleton_of_pages : (chunks : List Chunk) (texts others : List (List ℕ)) → state_after_all data_state chunks ≡ data_state →
    Fill chunks texts → AllByRecursion IsUtf8 texts → Fill chunks others → AllByRecursion IsUtf8 others →
    skeleton (tokens (actions_of data_state (page chunks texts))) ≡ skeleton (tokens (actions_of data_state (page chunks others)))
skeleton_of_pages chunks texts others sound full utf8 others_full others_utf8 = grind (arith, nat_tests, skeleton-structure, structure_of_page)
