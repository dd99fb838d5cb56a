use Rattle.std.proofs.Common.{[], ◌∷◌, codes, refl, ap}
use Rattle.html_template.specs.Templates.{Fill}
use Rattle.html_tokenizer.specs.Declarations.{Declared}
use Rattle.uses.specs.Templates.Bars.{bar_markups, bar_pieces, bar_texts}
use Rattle.uses.proofs.templates.bar.BarTemplate.page.Goals as goal

pub returns-clause-names : goal.returns-clause-names
returns-clause-names c =
    let full : Fill bar_pieces (bar_texts c.args.bar) = rw c.args.self.now.told at c.in_ok-append.ensures.full in
    ap (λ (d : Declared). d.names)
    (c.style_law.ensures (codes "width: ") bar_markups (bar_texts c.args.bar) ([] ∷ [] ∷ []) (refl, refl, (refl, refl, tt))
    (record { count = refl; taken = (full.0, (full.1.0, tt)) }) (record { count = refl; taken = (refl, (refl, tt)) }))
