-- The names of the elements whose text is a body.
use Rattle.std.specs.Prelude.{ℕ, List, codes}
use Rattle.hesc_specs.specs.declared.elements.Element.{Element}
use Rattle.hesc_specs.specs.declared.elements.Element.TheVariants.{Script, Style}

-- the element's name, in lower case
abbrev pub element_name : Element → List ℕ
element_name Script = codes "script"
element_name Style = codes "style"
