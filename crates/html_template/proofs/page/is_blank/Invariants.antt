use Rattle.std.proofs.Common.{◌≡◌, length}
use Rattle.std.specs.List.{list_all}
use Rattle.html_tokenizer.specs.Tokenizer.Code.Scripts.{is_json_space}
use Rattle.html_template.proofs.page.is_blank.Given as goal

abbrev pub invariant-bytes : goal.invariant-bytes
invariant-bytes l = list_all is_json_space l.rest ≡ list_all is_json_space l.bytes

abbrev pub decreases-bytes : goal.decreases-bytes
decreases-bytes l = length l.rest
