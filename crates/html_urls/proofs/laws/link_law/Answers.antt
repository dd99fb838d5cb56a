use Rattle.html_urls.proofs.Links.LinkLaw.{link_law, page_law}
use Rattle.html_urls.proofs.laws.link_law.Goals as goal

pub returns : goal.returns
returns c = record {
  link = λ base page. link_law base c.args.text.now c.requires page;
  page = λ base. page_law base c.args.text.now c.requires;
}
