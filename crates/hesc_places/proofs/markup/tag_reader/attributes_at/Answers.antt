use Rattle.std.proofs.Common.{◌≡◌, ◌-◌, map, zero, length, ap, ◌∙◌, arith}
use Rattle.std.proofs.lemmas.List.{map-append}
use Rattle.hesc_places.proofs.Pages.AttributeTurns.{no_more, none_follows, one_more}
use Rattle.hesc_places.proofs.markup.tag_reader.attributes_at.Goals as goal

pub returns-in-None : goal.returns-in-None
returns-in-None g c = no_more _ _ _ _ c.in-None.is c.in_ok-attribute_at.ensures c.loop.invariant.known

pub loop-preserved : goal.loop-preserved
loop-preserved g c = record {
  end = c.loop.invariant.end;
  known = one_more _ _ _ _ c.in-Some.is c.in_ok-attribute_at.ensures (omega (arith, c.loop-test.true)) (ap (map _) c.in_ok-push-in-Some.ensures.items ∙ map-append _ _ _) c.loop.invariant.known;
}

pub returns : goal.returns
returns g c =
    let none_left : length c.args.bytes.now - c.loop.counter ≡ zero = omega (arith, c.loop-test.false) in
    none_follows _ _ (rw none_left at c.loop.invariant.known)
