use Rattle.html_urls.proofs.Bases.OwnBases.{own_alike, own_is_base, page_head}
use Rattle.html_urls.proofs.laws.own_base_law.Goals as goal

pub returns : goal.returns
returns c =
    let text = c.args.base.now in
    record {
      base = own_is_base c.args.behind text c.requires;
      page = λ page web. page_head c.args.behind text page c.requires web;
      alike = λ other before also page web. own_alike c.args.behind before text other page c.requires also web;
    }
