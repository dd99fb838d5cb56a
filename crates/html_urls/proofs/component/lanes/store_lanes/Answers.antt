use Rattle.std.proofs.Common.{◌≡◌, ℕ, List, arith, length, take, take-take}
use Rattle.std.proofs.lemmas.Simd.{length-chunk}
use Rattle.html_urls.proofs.Encoded.Digits.{stored_lanes}
use Rattle.html_urls.proofs.component.lanes.store_lanes.Goals as goal

pub returns : goal.returns
returns c =
    let w : List ℕ = take 16 c.args.bytes.now in
    let long : length w ≡ 16 = length-chunk 0 16 c.args.bytes.now c.requires.there in
    stored_lanes w c.args.bytes.now c.args.room.now _ c.args.place _ c.args.count c.encoded_mask-mask.result long (take-take c.args.count 16 c.args.bytes.now c.requires.few) c.requires.few (omega arith) c.encoded_mask-mask.ensures c.store_sixteen-end.ensures
