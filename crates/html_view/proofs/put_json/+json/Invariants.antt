use Rattle.std.proofs.Common.{◌≡◌, ◌≤◌}
use Rattle.html_view.specs.Data.{Items, Record}
use Rattle.html_view.specs.JsonTexts.{items_text, json_text, members_text}
use Rattle.html_view.specs.Values.{datum_of, fields_in, items_in}
use Rattle.html_view.proofs.PuttingJson.{IsJsonSoFar, datum_size, fields_size, items_size}
use Rattle.html_view.proofs.put_json.+json.Given as goal

abbrev pub decreases-put_json : goal.decreases-put_json
decreases-put_json g l = datum_size (datum_of l.value)

abbrev pub decreases-put_items : goal.decreases-put_items
decreases-put_items g l = items_size (items_in l.items)

abbrev pub decreases-put_fields : goal.decreases-put_fields
decreases-put_fields g l = fields_size (fields_in l.fields)

abbrev pub invariant-put_items-items : goal.invariant-put_items-items
invariant-put_items-items g l = record {
  so_far : IsJsonSoFar (json_text (Items (items_in l.items))) (items_text l.after (items_in l.rest)) (g.S.Sink.seen l.fn.sink).taken (g.S.Sink.seen l.sink).taken;
  reference : (g.S.Sink.seen l.sink).reference ≡ (g.S.Sink.seen l.fn.sink).reference;
  before : (g.S.Sink.seen l.sink).before ≡ (g.S.Sink.seen l.fn.sink).before;
  fewer : items_size (items_in l.rest) ≤ items_size (items_in l.items);
}

abbrev pub decreases-put_items-items : goal.decreases-put_items-items
decreases-put_items-items g l = items_size (items_in l.rest)

abbrev pub invariant-put_fields-fields : goal.invariant-put_fields-fields
invariant-put_fields-fields g l = record {
  so_far : IsJsonSoFar (json_text (Record (fields_in l.fields))) (members_text l.after (fields_in l.rest)) (g.S.Sink.seen l.fn.sink).taken (g.S.Sink.seen l.sink).taken;
  reference : (g.S.Sink.seen l.sink).reference ≡ (g.S.Sink.seen l.fn.sink).reference;
  before : (g.S.Sink.seen l.sink).before ≡ (g.S.Sink.seen l.fn.sink).before;
  fewer : fields_size (fields_in l.rest) ≤ fields_size (fields_in l.fields);
}

abbrev pub decreases-put_fields-fields : goal.decreases-put_fields-fields
decreases-put_fields-fields g l = fields_size (fields_in l.rest)
