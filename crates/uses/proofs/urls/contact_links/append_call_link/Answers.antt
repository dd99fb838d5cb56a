use Rattle.std.proofs.Common.{[], refl}
use Rattle.uses.proofs.urls.contact_links.append_call_link.Goals as goal

pub returns-clause-scheme : goal.returns-clause-scheme
returns-clause-scheme c = λ base web. c.url_shape_law.ensures.number base c.args.number.now [] web refl refl c.in_ok-append_url.ensures.fills
