use Rattle.html_urls.specs.Bases.{given_behind}
use Rattle.html_urls.proofs.Bases.Filling.{fills}
use Rattle.html_urls.proofs.Bases.Headings.{base_head}
use Rattle.html_urls.proofs.laws.base_law.Goals as goal

pub returns : goal.returns
returns c =
    let parts = given_behind c.args.behind c.args.parts.now in
    record {
      fills = λ texts full. fills c.args.behind c.args.base.now parts texts c.requires full;
      head = λ page texts web goes full. base_head page c.args.behind c.args.base.now parts texts web c.requires goes full;
    }
