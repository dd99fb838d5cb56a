use Rattle.html_urls.proofs.Encoded.Lanes.{unreserved_by_sixteen}
use Rattle.html_urls.proofs.component.unreserved.is_unreserved_by_sixteen.Goals as goal

pub returns : goal.returns
returns c =
    let both = unreserved_by_sixteen c.args.bytes.now c.encoded_mask-first.result c.encoded_mask-last.result c.requires.one c.requires.both c.encoded_mask-first.ensures c.encoded_mask-last.ensures in
    (λ is. both.0 (c.are_empty.ensures.0 is), λ kept. c.are_empty.ensures.1 (both.1 kept))
