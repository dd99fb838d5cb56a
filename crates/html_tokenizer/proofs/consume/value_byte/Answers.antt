use Rattle.std.proofs.Common.{sym}
use Rattle.hesc_grammars.specs.StyleStrings.{is_newline_or_nul}
use Rattle.html_tokenizer.specs.Tokenizer.Code.Comments.{ends_line}
use Rattle.html_tokenizer.proofs.consume.value_byte.Goals as goal

pub returns-in-ScriptSingle : goal.returns-in-ScriptSingle
returns-in-ScriptSingle c = rw c.in-ScriptSingle.is (rw c.in-ScriptSingle.is at c.string_byte.ensures ends_line (sym c.ends_line-in_script.ensures))

pub returns-in-ScriptDouble : goal.returns-in-ScriptDouble
returns-in-ScriptDouble c = rw c.in-ScriptDouble.is (rw c.in-ScriptDouble.is at c.string_byte-in-ScriptDouble.ensures ends_line (sym c.ends_line-in_script.ensures))

pub returns-in-StyleSingle : goal.returns-in-StyleSingle
returns-in-StyleSingle c = rw c.in-StyleSingle.is (rw c.in-StyleSingle.is at c.string_byte-in-StyleSingle.ensures is_newline_or_nul (sym c.is_newline_or_nul-in_style.ensures))

pub returns-in-StyleDouble : goal.returns-in-StyleDouble
returns-in-StyleDouble c = rw c.in-StyleDouble.is (rw c.in-StyleDouble.is at c.string_byte-in-StyleDouble.ensures is_newline_or_nul (sym c.is_newline_or_nul-in_style.ensures))
