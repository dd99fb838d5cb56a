use Rattle.std.proofs.Common.{◌≡◌, length}
use Rattle.std.specs.List.{list_all}
use Rattle.html_tokenizer.specs.Declarations.{is_style_byte}
use Rattle.html_tokenizer.proofs.attributes.declarations.is_style_value.Given as goal

abbrev pub invariant-bytes : goal.invariant-bytes
invariant-bytes l = list_all is_style_byte l.rest ≡ list_all is_style_byte l.text

abbrev pub decreases-bytes : goal.decreases-bytes
decreases-bytes l = length l.rest
