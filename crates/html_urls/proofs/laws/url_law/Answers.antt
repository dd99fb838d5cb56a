use Rattle.html_urls.proofs.Places.UrlLaw.{url_law}
use Rattle.html_urls.proofs.laws.url_law.Goals as goal

pub returns : goal.returns
returns c base suits = url_law c.args.place base c.args.front.now c.args.text.now c.args.rest.now c.requires.ends c.requires.fits suits
