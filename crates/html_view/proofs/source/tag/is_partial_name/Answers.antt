use Rattle.std.proofs.Common.{rules}
use Rattle.std.proofs.lemmas.Bool.{MatchBool-at_false, not-true}
use Rattle.std.proofs.lemmas.Fn.{always_returns_same}
use Rattle.html_view.specs.Tags.{is_apart}
use Rattle.html_view.proofs.source.tag.is_partial_name.Goals as goal

pub returns-then-not-is_empty : goal.returns-then-not-is_empty
returns-then-not-is_empty c = λ is. record {
  some = λ empty. search rules;
  letters = MatchBool-at_false _ _ (not-true c.contains.result is) c.contains.ensures.cases is_apart
      (always_returns_same _ _ _ (λ a r f call. search rules));
}
