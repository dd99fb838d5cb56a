use Rattle.std.proofs.Common.{ap, ◌∙◌, ◌+◌, ◌<◌, drop, length, map, refl, sym, take, arith}
use Rattle.std.proofs.lemmas.List.{length-drop, take_all}
use Rattle.std.proofs.Math.Seq.{drop-length}
use Rattle.std.specs.Simd.Lanes.{mask_l}
use Rattle.hesc_scan.proofs.ChunkSearch.{below_256, chunk_stands, none_by_mask, none_by_part, slice_rest}
use Rattle.hesc_scan.proofs.scan.first_by_chunks.Goals as goal

pub hits-mask-requires : goal.hits-mask-requires
hits-mask-requires g c =
    let chunks = c.as_chunks.ensures in
    below_256 c.args.bytes.now _ c.loop-chunk.place c.type_inv.bytes
    (chunk_stands c.args.bytes.now _ c.args.from c.as_chunks.result.0.now c.loop-chunk.chunk-index c.requires (slice_rest c.args.bytes.now c.args.from c.requires) chunks.front chunks.front_len (omega arith) c.loop-chunk.place c.loop-chunk.invariant.place)

pub returns-then-mask-ne0 : goal.returns-then-mask-ne0
returns-then-mask-ne0 g c =
    let chunks = c.as_chunks.ensures in
    let before = c.loop-chunk.invariant in
    let stands =
    chunk_stands c.args.bytes.now _ c.args.from c.as_chunks.result.0.now c.loop-chunk.chunk-index c.requires (slice_rest c.args.bytes.now c.args.from c.requires) chunks.front chunks.front_len (omega arith) c.loop-chunk.place before.place in
    record {
      ordered = omega (arith, before.place);
      within = omega (arith, stands.room);
      before = before.none;
      is_mask = c.hits-mask.ensures ∙ ap (λ l. mask_l (map (g.L.Lookup.has c.args.lookup.now) l)) stands.bytes_there;
      none = λ empty. absurd (omega (arith, empty));
    }

pub returns-then-mask-eq0 : goal.returns-then-mask-eq0
returns-then-mask-eq0 g c =
    let bytes = c.args.bytes.now in
    let place = c.loop-chunk.place in
    let before = c.loop-chunk.invariant in
    let few : length bytes < place + 32 = omega (arith, before.place, c.as_chunks.ensures.front_len) in
    record {
      ordered = c.requires;
      within = omega arith;
      before = λ k from_k below. none_by_part (g.L.Lookup.has c.args.lookup.now) bytes c.args.from place 32 c.hits_in-mask.result (omega arith) before.within (omega (arith, before.place)) before.none
          (c.hits_in-mask.ensures ∙ ap (λ l. mask_l (map (g.L.Lookup.has c.args.lookup.now) l)) (c.rest.ensures ∙ sym (take_all 32 (drop place bytes) (omega (arith, few, length-drop place bytes)))))
          c.if-mask-eq0.true k from_k below (omega (arith, few));
      is_mask = ap (λ l. mask_l (map (g.L.Lookup.has c.args.lookup.now) (take 32 l))) (sym (drop-length bytes));
      none = λ _. refl;
    }

pub returns : goal.returns
returns g c =
    let bytes = c.args.bytes.now in
    let place = c.loop-chunk.place in
    let before = c.loop-chunk.invariant in
    let few : length bytes < place + 32 = omega (arith, before.place, c.as_chunks.ensures.front_len) in
    record {
      ordered = omega (arith, before.place);
      within = before.within;
      before = before.none;
      is_mask = c.hits_in-mask.ensures ∙ ap (λ l. mask_l (map (g.L.Lookup.has c.args.lookup.now) l)) (c.rest.ensures ∙ sym (take_all 32 (drop place bytes) (omega (arith, few, length-drop place bytes))));
      none = λ empty. absurd (omega (arith, empty));
    }

pub loop-chunk-preserved : goal.loop-chunk-preserved
loop-chunk-preserved g c =
    let chunks = c.as_chunks.ensures in
    let before = c.loop-chunk.invariant in
    let stands =
    chunk_stands c.args.bytes.now _ c.args.from c.as_chunks.result.0.now c.loop-chunk.chunk-index c.requires (slice_rest c.args.bytes.now c.args.from c.requires) chunks.front chunks.front_len (omega arith) c.loop-chunk.place before.place in
    record {
      place = omega (arith, before.place);
      within = omega (arith, stands.room);
      none = none_by_mask (g.L.Lookup.has c.args.lookup.now) c.args.bytes.now _ c.args.from c.loop-chunk.place c.hits-mask.result (omega (arith, before.place)) before.none stands c.hits-mask.ensures (omega arith);
    }
