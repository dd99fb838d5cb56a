use Rattle.std.proofs.Common.{◌∙◌, sym}
use Rattle.hesc_core.proofs.rules.unescape.tokens.escape.Goals as goal

pub returns-then-after_less : goal.returns-then-after_less
returns-then-after_less c =
    rw (sym c.mark_escape.ensures ∙ c.in_default.is, sym c.number_escape.ensures ∙ c.in_default-number_escape.is, sym c.separator_escape.ensures ∙ c.in_default-separator_escape.is, c.if-after_less.true) c.opening_escape.ensures
