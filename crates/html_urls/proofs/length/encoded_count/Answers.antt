use Rattle.std.proofs.Common.{arith}
use Rattle.html_urls.proofs.Encoded.Lanes.{count_is_within, count_of_mask, counted_more, counted_whole}
use Rattle.html_urls.proofs.length.encoded_count.Goals as goal

pub counting-preserved : goal.counting-preserved
counting-preserved c =
    let bytes = c.args.bytes.now in
    let place = c.counting.place in
    let more = counted_more bytes place 16 in
    let here = count_of_mask bytes place 16 c.encoded_mask.result c.encoded_mask.ensures in
    let few = count_is_within bytes place 16 in
    record {
      within = omega (arith, c.counting-test.true);
      counted = omega (arith, more, here, c.counting.invariant.counted);
      few = omega (arith, here, few, c.counting.invariant.few);
    }

pub returns : goal.returns
returns c = counted_whole c.args.bytes.now c.counting.place c.counting.count c.encoded_among.result c.counting.invariant.counted c.encoded_among.ensures.count
