use Rattle.std.proofs.Common.{◌-◌, drop, eq-eqb, eqb-true, length, refl}
use Rattle.html_urls.proofs.Encoded.Lanes.{unreserved_by_eight}
use Rattle.html_urls.proofs.component.unreserved.is_unreserved_by_eight.Goals as goal

pub returns : goal.returns
returns c =
    let bytes = c.args.bytes.now in
    let both = unreserved_by_eight bytes (drop (length bytes - 8) bytes) c.first_and_last_eight.result c.encoded_lanes.result c.requires.one c.requires.both refl c.first_and_last_eight.ensures c.encoded_lanes.ensures in
    (λ is. both.0 (eqb-true _ _ is), λ kept. eq-eqb _ _ (both.1 kept))
