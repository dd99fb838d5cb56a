-- A way through pieces, and where nodes lead it.
use Rattle.std.proofs.Common.{ℕ, ◌≡◌, List, [], ◌∷◌, ◌++◌, Ok, refl, sym, subst, ⊎_elim}
use Rattle.std.specs.List.{AllByRecursion}
use Rattle.html_template.specs.OpenUrls.{before}
use Rattle.html_template.specs.Structure.{IsWhole}
use Rattle.html_template.specs.Templates.{Chunk, Markup, Slot}
use Rattle.html_template.specs.declared.open_url.PlacedSlot.{PlacedSlot}
use Rattle.html_template.specs.declared.parts.SlotKind.{SlotKind}
use Rattle.html_tokenizer.specs.declared.slot_place.SlotPlace.{SlotPlace}
use Rattle.html_view.specs.Nodes as node
use Rattle.html_view.specs.Nodes.{Nodes, Placed}
use Rattle.html_view.specs.Takes.{Among, AreAmong, GoesOn, GoesOver, GoesPast, LeadsBack, Takes}
use Rattle.html_view.specs.Unrolled.{Stands, Unrolls, all_of}
use Rattle.html_view.specs.declared.node.Times.{Times}
use Rattle.html_view.specs.declared.node.Times.TheVariants.{Attributes, Each, Given, If, Once, Whether}
use Rattle.html_view.specs.Ways.{Way, first_way, past_slot, way_behind, way_slot}

-- one way through a slot at this place
pub record IsPast (way : Way) (p : SlotPlace) (kind : SlotKind) (next : Way) : Type 0 where
  pub found : PlacedSlot
  pub stands : way_slot way ≡ Ok found
  pub guess : List ℕ
  pub place : (before guess found).place ≡ p
  pub kind_is : (before guess found).kind ≡ kind
  pub goes : past_slot way (before guess found) ≡ next

-- a way leads through these pieces to another
abbrev pub Runs : Way → List Chunk → Way → Type 0
Runs way [] last = way ≡ last
Runs way (Markup bytes ∷ pieces) last = (next : Way) × (way_behind way bytes ≡ Ok next) × Runs next pieces last
Runs way (Slot p kind ∷ pieces) last = (next : Way) × IsPast way p kind next × Runs next pieces last

runs_more : (way middle last : Way) (first second : List Chunk) → Runs way first middle → Runs middle second last → Runs way (first ++ second) last
runs_more way middle last [] second runs more = subst (λ (w : Way). Runs w second last) (sym runs) more
runs_more way middle last (Markup bytes ∷ first) second runs more = (runs.0, runs.1, runs_more runs.0 middle last first second runs.2 more)
runs_more way middle last (Slot p kind ∷ first) second runs more = (runs.0, runs.1, runs_more runs.0 middle last first second runs.2 more)

-- it leads to one of these
pub record RunsAmong (way : Way) (pieces : List Chunk) (ways : List Way) : Type 0 where
  pub last : Way
  pub runs : Runs way pieces last
  pub among : Among last ways

-- through each pass of a body
all_passes : (body : Nodes Placed) (ways : List Way) →
    ((pass : List Chunk) → Unrolls body pass → (way : Way) → Among way ways → RunsAmong way pass ways) →
    (passes : List (List Chunk)) → AllByRecursion (λ pass. Unrolls body pass) passes → (way : Way) → Among way ways → RunsAmong way (all_of passes) ways
all_passes body ways leads [] all way among = record { last = way; runs = refl; among = among }
all_passes body ways leads (pass ∷ passes) all way among =
    let here = leads pass all.0 way among in
    let others = all_passes body ways leads passes all.1 here.last here.among in
    record { last = others.last; runs = runs_more way here.last others.last pass (all_of passes) here.runs others.runs; among = others.among }

then_runs : (way : Way) (first second pieces : List Chunk) (ways next : List Way) → pieces ≡ first ++ second → RunsAmong way first next →
    ((middle : Way) → Among middle next → RunsAmong middle second ways) → RunsAmong way pieces ways
then_runs way first second pieces ways next is here others =
    let more = others here.last here.among in
    record {
      last = more.last;
      runs = subst (λ all. Runs way all more.last) (sym is) (runs_more way here.last more.last first second here.runs more.runs);
      among = more.among;
    }

weakened : (way : Way) (pieces : List Chunk) (ways others : List Way) → AreAmong ways others → RunsAmong way pieces ways → RunsAmong way pieces others
weakened way pieces ways others are runs = record { last = runs.last; runs = runs.runs; among = are runs.last runs.among }

-- through a body, as often as it may stand
body_runs : (times : Times) (body : Nodes Placed) (head out : List Way) →
    ((pass : List Chunk) → Unrolls body pass → (way : Way) → Among way head → RunsAmong way pass out) → LeadsBack times out head →
    (pieces : List Chunk) → Stands times (λ pass. Unrolls body pass) pieces → (way : Way) → Among way head → RunsAmong way pieces out
body_runs Each body head out runs back pieces stands way among =
    then_runs way stands.0 (all_of stands.1) pieces out out stands.2 (runs stands.0 stands.3 way among)
    (λ middle in_out.
    all_passes body out (λ pass is_pass w in_ways. runs pass is_pass w (back w in_ways)) stands.1 stands.4 middle in_out)
body_runs Once body head out runs back pieces stands way among = runs pieces stands way among
body_runs If body head out runs back pieces stands way among = runs pieces stands way among
body_runs Whether body head out runs back pieces stands way among = runs pieces stands way among
body_runs Given body head out runs back pieces stands way among = runs pieces stands way among
body_runs Attributes body head out runs back pieces stands way among = runs pieces stands way among

-- a fragment leads back to where a page begins
whole_goes : (markup : List ℕ) → IsWhole markup → way_behind first_way markup ≡ Ok first_way
whole_goes markup whole = rw whole refl

-- each unrolling of nodes leads a way where the nodes do
pub leads : (nodes : Nodes Placed) (ways others : List Way) → Takes ways nodes others → (pieces : List Chunk) → Unrolls nodes pieces →
    (way : Way) → Among way ways → RunsAmong way pieces others
leads node.End ways others takes pieces unrolls way among =
    record { last = way; runs = subst (λ all. Runs way all way) (sym unrolls) refl; among = takes way among }
leads (node.Markup bytes rest) ways others takes pieces unrolls way among =
    let here : GoesOn way bytes takes.0 = takes.1 way among in
    let more = leads rest takes.0 others takes.2 unrolls.0 unrolls.2 here.next here.among in
    record { last = more.last; runs = subst (λ all. Runs way all more.last) (sym unrolls.1) (here.next, here.goes, more.runs); among = more.among }
leads (node.Slot slot rest) ways others takes pieces unrolls way among =
    let here : GoesPast way slot takes.0 = takes.1 way among in
    let next : Way = past_slot way (before here.guess here.found) in
    let more = leads rest takes.0 others takes.2 unrolls.0 unrolls.2 next here.among in
    let past : IsPast way slot.place slot.kind next =
    record { found = here.found; stands = here.stands; guess = here.guess; place = here.place; kind_is = here.kind; goes = refl } in
    record { last = more.last; runs = subst (λ all. Runs way all more.last) (sym unrolls.1) (next, past, more.runs); among = more.among }
leads (node.Fragment slot rest) ways others takes pieces unrolls way among =
    let here : GoesOver way takes.0 = takes.1 way among in
    let more = leads rest takes.0 others takes.2 unrolls.1 unrolls.4 way here.1 in
    let goes : way_behind way unrolls.0 ≡ Ok way = subst (λ w. way_behind w unrolls.0 ≡ Ok w) (sym here.0) (whole_goes unrolls.0 unrolls.2) in
    record { last = more.last; runs = subst (λ all. Runs way all more.last) (sym unrolls.3) (way, goes, more.runs); among = more.among }
leads (node.Section opening body otherwise rest) ways others takes pieces unrolls way among =
    then_runs way unrolls.0 unrolls.1 pieces others takes.2 unrolls.2
    (⊎_elim
    (λ (is : Stands opening.times (λ pass. Unrolls body pass) unrolls.0).
    weakened way unrolls.0 takes.1 takes.2 takes.6
    (body_runs opening.times body takes.0 takes.1 (λ pass is_pass w in_head. leads body takes.0 takes.1 takes.4 pass is_pass w in_head)
    takes.5 unrolls.0 is way (takes.3 way among)))
    (λ (is : Unrolls otherwise unrolls.0). leads otherwise ways takes.2 takes.7 unrolls.0 is way among)
    unrolls.3)
    (λ middle in_ways. leads rest takes.2 others takes.8 unrolls.1 unrolls.4 middle in_ways)
