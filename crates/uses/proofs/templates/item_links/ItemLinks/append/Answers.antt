use Rattle.std.proofs.Common.{[], ◌∷◌, ◌++◌, codes, refl, sym, ap, ◌∙◌, append-nil}
use Rattle.html_urls.specs.Components.{component}
use Rattle.html_urls.specs.Heads.{head_of}
use Rattle.url.specs.Parser.{parse_url}
use Rattle.uses.proofs.templates.item_links.ItemLinks.append.Goals as goal

pub returns-clause-head : goal.returns-clause-head
returns-clause-head c = λ page web.
    let id = c.args.item.id.now in
    let full = rw c.args.self.now.told at c.in_ok-append.ensures.full in
    ap (λ x. head_of (parse_url page (c.args.item.base.now ++ (codes "/items/" ++ x)))) (sym (append-nil (component id)))
    ∙ c.base_law.ensures.head page (id ∷ []) web refl (c.base_law.ensures.fills (id ∷ []) ((full.1.0, tt), refl))
