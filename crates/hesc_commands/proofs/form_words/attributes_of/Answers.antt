use Rattle.std.proofs.Common.{◌++◌, flat_map, map, sym, ap, ◌∙◌, append-nil}
use Rattle.hesc_places.specs.Pages.FormTexts.{written}
use Rattle.hesc_commands.specs.FormWords.{attribute_words}
use Rattle.hesc_commands.proofs.Letters.{broken, none_left}
use Rattle.hesc_commands.proofs.form_words.attributes_of.Goals as goal

pub unreachable-requires : goal.unreachable-requires
unreachable-requires g c =
    let none = broken (λ word. word.now) c.attributes.rest.now _ c.in-len3-up.len_at_least c.in_default-quoting_named.ensures in
    let named = c.attributes.invariant.named in
    cc

pub returns : goal.returns
returns g c =
    let done = flat_map attribute_words (map written c.attributes.attributes.items) in
    sym (append-nil done)
    ∙ ap (λ words. done ++ words) (sym (none_left (λ word. word.now) c.attributes.rest.now c.in_default.len_below c.attributes.invariant.named))
    ∙ c.attributes.invariant.known
