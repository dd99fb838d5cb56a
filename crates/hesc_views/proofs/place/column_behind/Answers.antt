use Rattle.std.proofs.Common.{◌+◌, reverse, ap, ◌∙◌, rules, tests, take_while}
use Rattle.std.proofs.lemmas.Iterator.Adapters.{YieldsList-from_rev_slice}
use Rattle.std.proofs.lemmas.Iterator.Consumers.{YieldsList-at, YieldsList-from_filter, count_from_yields_List}
use Rattle.std.proofs.lemmas.Iterator.Search.{YieldsList-from_take_while}
use Rattle.std.proofs.lemmas.List.Sums.{length-filter}
use Rattle.hesc_views.specs.Places.{begins_character, is_in_line}
use Rattle.hesc_views.proofs.place.column_behind.Goals as goal

pub returns : goal.returns
returns c =
    let counted = count_from_yields_List c.filter.result c.count.result c.count.ensures.ran
    (YieldsList-from_filter _ begins_character (YieldsList-at c.filter.ensures.source
    (YieldsList-from_take_while _ is_in_line (YieldsList-at c.take_while-line.ensures.source (YieldsList-from_rev_slice c.args.before.now (cc)))
    c.take_while-line.ensures.closure c.take_while-line.ensures.done (λ x b q k. search (rules, tests, k))))
    c.filter.ensures.closure (λ x b q k. search (rules, tests))) in
    ap (λ n. n + 1) (counted ∙ length-filter begins_character (take_while is_in_line (reverse c.args.before.now)))
