use Rattle.html_urls.proofs.Bases.OwnPaths.{one_part, own_alike, page_head}
use Rattle.html_urls.proofs.laws.own_path_law.Goals as goal

pub returns : goal.returns
returns c =
    let text = c.args.text.now in
    record {
      page = λ page web. page_head page text web c.requires;
      alike = λ other also base web. own_alike base text other web c.requires also;
      parts = one_part text c.requires;
    }
