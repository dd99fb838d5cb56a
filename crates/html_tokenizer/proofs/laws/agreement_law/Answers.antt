use Rattle.std.proofs.Common.{refl}
use Rattle.html_tokenizer.specs.Tokenizer.Tokenization.{consume}
use Rattle.html_tokenizer.proofs.Agreement.HtmlValues.{marked_agrees, unquoted_agrees}
use Rattle.html_tokenizer.proofs.Agreement.Escapes.{script_place, style_place}
use Rattle.html_tokenizer.proofs.Agreement.Strings.{agrees_in}
use Rattle.html_tokenizer.proofs.Slots.Html.{double_reads, ordinary_remains, single_reads, text_reads}
use Rattle.html_tokenizer.proofs.Slots.Scripts.{script_double_reads, script_single_reads}
use Rattle.html_tokenizer.proofs.Slots.Styles.{style_double_reads, style_single_reads}
use Rattle.html_tokenizer.proofs.laws.agreement_law.Goals as goal

pub returns-clause-text : goal.returns-clause-text
returns-clause-text c found is = marked_agrees (text_reads ordinary_remains c.args.content) c.args.bytes.now found is

pub returns-clause-double : goal.returns-clause-double
returns-clause-double c found is = marked_agrees (double_reads ordinary_remains c.args.content) c.args.bytes.now found is

pub returns-clause-single : goal.returns-clause-single
returns-clause-single c found is = marked_agrees (single_reads ordinary_remains c.args.content) c.args.bytes.now found is

pub returns-clause-unquoted : goal.returns-clause-unquoted
returns-clause-unquoted c end found is = unquoted_agrees c.args.content end c.args.bytes.now found is

pub returns-clause-carriage_return : goal.returns-clause-carriage_return
unfolding consume
returns-clause-carriage_return c = refl

pub returns-clause-first_carriage_return : goal.returns-clause-first_carriage_return
unfolding consume
returns-clause-first_carriage_return c = refl

pub returns-clause-script_single : goal.returns-clause-script_single
returns-clause-script_single c found is = agrees_in (script_place (script_single_reads c.args.content)) c.args.bytes.now found is

pub returns-clause-script_double : goal.returns-clause-script_double
returns-clause-script_double c found is = agrees_in (script_place (script_double_reads c.args.content)) c.args.bytes.now found is

pub returns-clause-style_single : goal.returns-clause-style_single
returns-clause-style_single c found is = agrees_in (style_place (style_single_reads c.args.content)) c.args.bytes.now found is

pub returns-clause-style_double : goal.returns-clause-style_double
returns-clause-style_double c found is = agrees_in (style_place (style_double_reads c.args.content)) c.args.bytes.now found is
