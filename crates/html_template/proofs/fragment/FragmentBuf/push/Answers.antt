use Rattle.std.proofs.Common.{is_ok}
use Rattle.std.specs.String.{string_bytes}
use Rattle.html_template.proofs.Fragments.{whole_appended}
use Rattle.html_template.proofs.fragment.FragmentBuf.push.Goals as goal

pub invariant_of-self : goal.invariant_of-self
invariant_of-self g c = record {
  whole = whole_appended (is_ok c.push_str.result) (string_bytes c.args.self.now.markup) c.args.fragment.markup.now (string_bytes c.push_str.new.self)
      c.push_str.ensures.bytes c.args.self.now.whole c.args.fragment.whole;
}
