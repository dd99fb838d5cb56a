-- The pieces of a named template, and the names of its slots.
use Rattle.std.specs.Prelude.{ℕ, List}
use Rattle.html_template.specs.TemplatePieces.{pieces_of}
use Rattle.html_template.specs.Templates.{Chunk}
use Rattle.html_template_source.specs.SlotNames.{slot_names}
use Rattle.html_template_source.specs.declared.named.NamedTemplate.{NamedTemplate}

abbrev pub chunks_of : {A : Type 0} → NamedTemplate A → List Chunk
chunks_of named = pieces_of named.template

abbrev pub names_of : {A : Type 0} → NamedTemplate A → List (List ℕ)
names_of named = slot_names named.names
