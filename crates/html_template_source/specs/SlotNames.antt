-- The names of slots.
use Rattle.std.specs.Prelude.{ℕ, List, map}
use Rattle.html_template.specs.Templates.{texts_of}
use Rattle.html_template_source.specs.Names.{name_at}
use Rattle.html_template_source.specs.declared.names.Names.{Names}

-- the name of each slot, in order
abbrev pub slot_names : {A : Type 0} → Names A → List (List ℕ)
slot_names names = map (name_at (texts_of names.distinct.items)) names.numbers.items
