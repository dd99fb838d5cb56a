use Rattle.std.proofs.Common.{Bor, List, ℕ, length, arith}
use Rattle.std.proofs.lemmas.List.{length-map}
use Rattle.html_template.specs.Templates.{texts_of}
use Rattle.html_template_source.proofs.Placed.{has_place, last_placed, none_placed}
use Rattle.html_template_source.proofs.places.place_bindings.Goals as goal

pub bindings-init : goal.bindings-init
bindings-init g c =
    let long = length-map c.args.names.now.distinct.items (λ (text : Bor (List ℕ)). text.now) in
    none_placed (texts_of c.args.names.now.distinct.items) c.args.bindings.now c.args.places.now 18446744073709551615 (omega arith)
    (omega (arith, long, c.requires.enough)) c.requires.fresh

pub put_place-requires : goal.put_place-requires
put_place-requires g c =
    let long = length-map c.args.names.now.distinct.items (λ (text : Bor (List ℕ)). text.now) in
    has_place (texts_of c.args.names.now.distinct.items) _ c.find-number.result (length c.bindings.places) c.find-number.ensures (omega (arith, long, c.requires.enough))

pub bindings-preserved : goal.bindings-preserved
bindings-preserved g c =
    let long = length-map c.args.names.now.distinct.items (λ (text : Bor (List ℕ)). text.now) in
    last_placed (texts_of c.args.names.now.distinct.items) c.args.bindings.now c.bindings.rest.now c.bindings.places c.put_place.new.places c.bindings.first
    c.put_place.result _ _ c.find-number.result c.args.names.now.single (omega (arith, long, c.requires.enough)) c.in-len1-up.len_at_least c.bindings.invariant
    c.find-number.ensures c.put_place.ensures.places c.put_place.ensures.fault c.or-first.ensures
