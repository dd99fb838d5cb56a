use Rattle.std.proofs.Common.{is_ok}
use Rattle.std.specs.String.{string_bytes}
use Rattle.html_escape.specs.Encoders.{encoded}
use Rattle.html_escape.specs.declared.encoder.Encoder.TheVariants as encoder
use Rattle.html_template.proofs.Fragments.{text_whole, whole_appended}
use Rattle.html_template.proofs.fragment.FragmentBuf.push_text.Goals as goal

pub invariant_of-self : goal.invariant_of-self
invariant_of-self g c = record {
  whole = whole_appended (is_ok c.append.result) (string_bytes c.args.self.now.markup) (encoded encoder.Text c.args.text.now)
      (string_bytes c.append.follows.lender-at-none) c.append.follows.holds-at-none c.args.self.now.whole (text_whole c.args.text.now c.utf8.text);
}
