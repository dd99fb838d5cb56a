use Rattle.std.proofs.Common.{[], refl}
use Rattle.uses.proofs.urls.contact_links.append_picture.Goals as goal

pub returns-clause-image : goal.returns-clause-image
returns-clause-image c = λ base web. c.url_shape_law.ensures.image base c.args.base64.now [] web refl c.in_ok-append_url.ensures.fills
