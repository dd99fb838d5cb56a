use Rattle.std.proofs.Common.{rules, sym, ap, ◌∙◌}
use Rattle.html_template.specs.OpenUrls.{url_markup}
use Rattle.html_view.specs.Following.{way_of}
use Rattle.html_view.proofs.RunningWays.{unfinished_told}
use Rattle.html_view.proofs.way.Way.is_unfinished.Goals as goal

pub returns : goal.returns
returns g c = λ so.
    unfinished_told (way_of c.args.self.now) c.in_ok-url.url
    (c.in_ok-url.ensures ∙ ap (url_markup c.args.self.now.url) c.deref.ensures.value)
    (sym c.is_refused.ensures ∙ c.if-is_refused.false) (search rules) (sym c.is_ok.ensures.value ∙ so)
