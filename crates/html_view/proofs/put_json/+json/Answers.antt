use Rattle.std.proofs.Common.{Some, false, true, ap, arith, codes, refl, ◌∙◌}
use Rattle.html_view.specs.Data.{Items, Record}
use Rattle.html_view.specs.JsonTexts.{comma, items_text, json_text, key_text, members_text}
use Rattle.html_view.specs.Values.{datum_of, fields_in, items_in}
use Rattle.html_view.proofs.JsonTexts.{array_begins, array_ends, followed, item_next, member_next, object_begins, object_ends}
use Rattle.html_view.proofs.PuttingJson.{fields_size, items_size, json_last, json_more, json_stop, no_json_yet}
use Rattle.html_view.proofs.put_json.+json.Goals as goal

pub put_items-returns-in-Err-clause-puts : goal.put_items-returns-in-Err-clause-puts
put_items-returns-in-Err-clause-puts g t c =
    let told = json_text (Items (items_in c.args.items)) in
    json_stop told told (Some (codes "[")) (items_text false (items_in c.args.items)) (g.S.Sink.seen c.args.sink.now).taken (g.S.Sink.seen c.args.sink.now).taken
    (g.S.Sink.seen c.put_mark.new.sink).taken c.in-Err.stop no_json_yet (array_begins (items_in c.args.items)) c.in-Err.ensures.puts

pub put_items-items-init : goal.put_items-items-init
put_items-items-init g t c = record {
  so_far = json_more no_json_yet (array_begins (items_in c.args.items)) c.in-Ok.ensures.puts;
  reference = c.in-Ok.ensures.same_reference;
  before = c.in-Ok.ensures.same_before;
  fewer = omega arith;
}

pub put_items-returns-in-Err-put_comma-clause-puts : goal.put_items-returns-in-Err-put_comma-clause-puts
put_items-returns-in-Err-put_comma-clause-puts g t c =
    json_stop (json_text (Items (items_in c.args.items))) (items_text c.items.after (items_in c.items.rest)) (Some (comma c.items.after)) (followed (json_text (datum_of c.in-Some.item)) (items_text true (items_in c.in-Some.others)))
    (g.S.Sink.seen c.args.sink.now).taken (g.S.Sink.seen c.items.sink).taken (g.S.Sink.seen c.put_comma.new.sink).taken c.in-Err-put_comma.stop c.items.invariant.so_far
    (item_next c.items.after (items_in c.items.rest) (items_in c.in-Some.others) (datum_of c.in-Some.item) c.in-Some.ensures.some)
    c.in-Err-put_comma.ensures.puts

pub put_items-returns-in-Err-put_json-clause-puts : goal.put_items-returns-in-Err-put_json-clause-puts
put_items-returns-in-Err-put_json-clause-puts g t c =
    let one = json_text (datum_of c.in-Some.item) in
    let others = items_text true (items_in c.in-Some.others) in
    json_stop (json_text (Items (items_in c.args.items))) (followed one others) one others (g.S.Sink.seen c.args.sink.now).taken (g.S.Sink.seen c.put_comma.new.sink).taken
    (g.S.Sink.seen c.put_json.new.sink).taken c.in-Err-put_json.stop
    (json_more c.items.invariant.so_far
    (item_next c.items.after (items_in c.items.rest) (items_in c.in-Some.others) (datum_of c.in-Some.item) c.in-Some.ensures.some)
    c.in-Ok-put_comma.ensures.puts)
    refl c.in-Err-put_json.ensures.puts

pub put_items-items-preserved : goal.put_items-items-preserved
put_items-items-preserved g t c = record {
  so_far = json_more
      (json_more c.items.invariant.so_far
      (item_next c.items.after (items_in c.items.rest) (items_in c.in-Some.others) (datum_of c.in-Some.item) c.in-Some.ensures.some)
      c.in-Ok-put_comma.ensures.puts)
      refl c.in-Ok-put_json.ensures.puts;
  reference = c.in-Ok-put_json.ensures.same_reference ∙ c.in-Ok-put_comma.ensures.same_reference ∙ c.items.invariant.reference;
  before = c.in-Ok-put_json.ensures.same_before ∙ c.in-Ok-put_comma.ensures.same_before ∙ c.items.invariant.before;
  fewer = omega (arith, ap items_size c.in-Some.ensures.some);
}

pub put_items-returns-clause-puts : goal.put_items-returns-clause-puts
put_items-returns-clause-puts g t c =
    json_last (json_text (Items (items_in c.args.items))) (items_text c.items.after (items_in c.items.rest)) (Some (codes "]")) (g.S.Sink.seen c.args.sink.now).taken
    (g.S.Sink.seen c.items.sink).taken (g.S.Sink.seen c.put_mark-2.new.sink).taken c.put_mark-2.result c.items.invariant.so_far
    (array_ends c.items.after (items_in c.items.rest) c.in_default.ensures.none) c.put_mark-2.ensures.puts

pub put_fields-returns-in-Err-clause-puts : goal.put_fields-returns-in-Err-clause-puts
put_fields-returns-in-Err-clause-puts g t c =
    let told = json_text (Record (fields_in c.args.fields)) in
    json_stop told told (Some (codes "{")) (members_text false (fields_in c.args.fields)) (g.S.Sink.seen c.args.sink.now).taken (g.S.Sink.seen c.args.sink.now).taken
    (g.S.Sink.seen c.put_mark.new.sink).taken c.in-Err.stop no_json_yet (object_begins (fields_in c.args.fields)) c.in-Err.ensures.puts

pub put_fields-fields-init : goal.put_fields-fields-init
put_fields-fields-init g t c = record {
  so_far = json_more no_json_yet (object_begins (fields_in c.args.fields)) c.in-Ok.ensures.puts;
  reference = c.in-Ok.ensures.same_reference;
  before = c.in-Ok.ensures.same_before;
  fewer = omega arith;
}

pub put_fields-returns-in-Err-put_key-clause-puts : goal.put_fields-returns-in-Err-put_key-clause-puts
put_fields-returns-in-Err-put_key-clause-puts g t c =
    json_stop (json_text (Record (fields_in c.args.fields))) (members_text c.fields.after (fields_in c.fields.rest)) (Some (key_text c.fields.after c.in-Some.name.now)) (followed (json_text (datum_of c.in-Some.value)) (members_text true (fields_in c.in-Some.others)))
    (g.S.Sink.seen c.args.sink.now).taken (g.S.Sink.seen c.fields.sink).taken (g.S.Sink.seen c.put_key.new.sink).taken c.in-Err-put_key.stop c.fields.invariant.so_far
    (member_next c.fields.after c.in-Some.name.now (fields_in c.fields.rest) (fields_in c.in-Some.others) (datum_of c.in-Some.value) c.in-Some.ensures.some)
    c.in-Err-put_key.ensures.puts

pub put_fields-returns-in-Err-put_json-clause-puts : goal.put_fields-returns-in-Err-put_json-clause-puts
put_fields-returns-in-Err-put_json-clause-puts g t c =
    let one = json_text (datum_of c.in-Some.value) in
    let others = members_text true (fields_in c.in-Some.others) in
    json_stop (json_text (Record (fields_in c.args.fields))) (followed one others) one others (g.S.Sink.seen c.args.sink.now).taken (g.S.Sink.seen c.put_key.new.sink).taken
    (g.S.Sink.seen c.put_json.new.sink).taken c.in-Err-put_json.stop
    (json_more c.fields.invariant.so_far
    (member_next c.fields.after c.in-Some.name.now (fields_in c.fields.rest) (fields_in c.in-Some.others) (datum_of c.in-Some.value) c.in-Some.ensures.some)
    c.in-Ok-put_key.ensures.puts)
    refl c.in-Err-put_json.ensures.puts

pub put_fields-fields-preserved : goal.put_fields-fields-preserved
put_fields-fields-preserved g t c = record {
  so_far = json_more
      (json_more c.fields.invariant.so_far
      (member_next c.fields.after c.in-Some.name.now (fields_in c.fields.rest) (fields_in c.in-Some.others) (datum_of c.in-Some.value) c.in-Some.ensures.some)
      c.in-Ok-put_key.ensures.puts)
      refl c.in-Ok-put_json.ensures.puts;
  reference = c.in-Ok-put_json.ensures.same_reference ∙ c.in-Ok-put_key.ensures.same_reference ∙ c.fields.invariant.reference;
  before = c.in-Ok-put_json.ensures.same_before ∙ c.in-Ok-put_key.ensures.same_before ∙ c.fields.invariant.before;
  fewer = omega (arith, ap fields_size c.in-Some.ensures.some);
}

pub put_fields-returns-clause-puts : goal.put_fields-returns-clause-puts
put_fields-returns-clause-puts g t c =
    json_last (json_text (Record (fields_in c.args.fields))) (members_text c.fields.after (fields_in c.fields.rest)) (Some (codes "}")) (g.S.Sink.seen c.args.sink.now).taken
    (g.S.Sink.seen c.fields.sink).taken (g.S.Sink.seen c.put_mark-2.new.sink).taken c.put_mark-2.result c.fields.invariant.so_far
    (object_ends c.fields.after (fields_in c.fields.rest) c.in_default.ensures.none) c.put_mark-2.ensures.puts
