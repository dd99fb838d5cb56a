-- The markup of fragments.
use Rattle.std.specs.Prelude.{ℕ, List}
use Rattle.std.specs.String.{string_bytes}
use Rattle.html_template.specs.declared.fragment.Fragment.{Fragment}
use Rattle.html_template.specs.declared.fragment.FragmentBuf.{FragmentBuf}

abbrev pub markup_of : Fragment → List ℕ
markup_of fragment = fragment.markup.now

abbrev pub markup_in : {A : Type 0} → FragmentBuf A → List ℕ
markup_in buffer = string_bytes buffer.markup
