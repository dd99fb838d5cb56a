use Rattle.std.proofs.Common.{◌≡◌, ◌↔◌, length, map}
use Rattle.html_template.specs.Templates.{texts_of}
use Rattle.html_template_source.specs.Bindings.{Binding, bindings_of}
use Rattle.html_template_source.proofs.names.Names.are_in_order.Given as goal

-- all names are those of the bindings, in order, where the rest are
abbrev pub invariant-names : goal.invariant-names
invariant-names g l =
    (map (λ (b : Binding). b.name) (bindings_of l.left) ≡ texts_of l.rest)
    ↔ (map (λ (b : Binding). b.name) (bindings_of l.bindings) ≡ texts_of l.self.distinct.items)

abbrev pub decreases-names : goal.decreases-names
decreases-names g l = length l.rest
