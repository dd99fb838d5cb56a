use Rattle.std.proofs.Common.{◌≡◌, ◌∙◌, ◌++◌, Bor, List, ℕ, drop, length, take, sym, subst, arith}
use Rattle.std.proofs.Math.Seq.{take-append_seam}
use Rattle.std.proofs.lemmas.List.{length-map}
use Rattle.std.specs.Prelude.{Some}
use Rattle.html_template.specs.Templates.{texts_of}
use Rattle.html_template_source.specs.Bindings.{bindings_of}
use Rattle.html_template_source.specs.NamedTemplates.{names_of}
use Rattle.html_template_source.specs.Places.{AreListed}
use Rattle.html_template_source.proofs.FirstFaults.{early_or_memory, early_told}
use Rattle.html_template_source.proofs.Placed.{listed_places}
use Rattle.html_template_source.proofs.named.NamedTemplate.put_places.Goals as goal

pub returns-in-Some-clause-faults : goal.returns-in-Some-clause-faults
returns-in-Some-clause-faults g c = early_told (Unit {0}) (bindings_of c.args.bindings.now) (names_of c.args.self.now) c.in-Some.fault c.in-Some.ensures.fault

pub returns-in-None-clause-placed : goal.returns-in-None-clause-placed
returns-in-None-clause-placed g c =
    let distinct = c.args.self.now.names.distinct in
    let same = length-map distinct.items (λ (text : Bor (List ℕ)). text.now) in
    listed_places c.find_fault.new.places (bindings_of c.args.bindings.now) (texts_of distinct.items)
    (omega (arith, same, c.find_fault.auto.places, c.if-count-le-BLOCK.true, c.len-count.ensures, distinct.ok))
    (λ k named. c.find_fault.ensures.placed k (omega (arith, same, named)))

pub returns-in_default-clause-faults : goal.returns-in_default-clause-faults
returns-in_default-clause-faults g c =
    early_or_memory (Unit {0}) (bindings_of c.args.bindings.now) (names_of c.args.self.now) c.search_fault.result c.unwrap_or.result c.search_fault.ensures c.unwrap_or.ensures

pub returns-in-Some-find_fault-clause-faults : goal.returns-in-Some-find_fault-clause-faults
returns-in-Some-find_fault-clause-faults g c =
    early_told (Unit {0}) (bindings_of c.args.bindings.now) (names_of c.args.self.now) c.in-Some-find_fault.fault c.in-Some-find_fault.ensures.fault

pub returns-in-None-find_fault-clause-placed : goal.returns-in-None-find_fault-clause-placed
returns-in-None-find_fault-clause-placed g c =
    let distinct = c.args.self.now.names.distinct in
    let bindings = bindings_of c.args.bindings.now in
    let new = c.find_fault-2.new.places in
    let same = length-map distinct.items (λ (text : Bor (List ℕ)). text.now) in
    let whole : length new ≡ c.in-Ok.many.len = c.find_fault-2.auto.places ∙ c.deref_mut.ensures.len in
    let items_are : take c.in-Ok.many.len (new ++ drop (length new) c.in-Ok.many.items) ≡ new =
    subst (λ n. take n (new ++ drop (length new) c.in-Ok.many.items) ≡ new) whole (take-append_seam new (drop (length new) c.in-Ok.many.items)) in
    subst (λ l. AreListed (Some l) bindings (texts_of distinct.items)) (sym items_are)
    (listed_places new bindings (texts_of distinct.items) (omega (arith, same, whole, c.in-Ok.ensures.len, c.len-count.ensures, distinct.ok))
    (λ k named. c.find_fault-2.ensures.placed k (omega (arith, same, named))))
