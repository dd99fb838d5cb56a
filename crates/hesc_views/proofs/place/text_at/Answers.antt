use Rattle.std.proofs.Common.{sym, ◌∙◌, map}
use Rattle.hesc_views.proofs.Numbered.{text_at-behind}
use Rattle.hesc_views.proofs.place.text_at.Goals as goal

pub returns : goal.returns
returns c =
    c.at.ensures ∙ sym (text_at-behind c.args.texts.view.now (map (λ text. text.now) c.args.texts.partials.now) c.args.number c.if-number-eq0.false)
