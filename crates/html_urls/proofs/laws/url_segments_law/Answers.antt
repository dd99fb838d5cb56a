use Rattle.html_urls.specs.Slots.{given}
use Rattle.html_urls.proofs.Bytes.{all_bytes}
use Rattle.html_urls.proofs.Shapes.Slots.Segments.{path_begins, slot_segments, slot_segments_decoded}
use Rattle.html_urls.proofs.laws.url_segments_law.Goals as goal

pub returns : goal.returns
returns c =
    let parts = given c.args.parts.now in
    let ends = path_begins parts c.requires in
    record {
      segments = λ base web. slot_segments base parts web ends;
      decoded = λ base web. let (before, is) = slot_segments_decoded base parts web ends in (before, λ texts fills bytes. is texts fills (all_bytes texts bytes));
    }
