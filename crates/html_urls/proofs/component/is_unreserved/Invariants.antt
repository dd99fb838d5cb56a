use Rattle.std.proofs.Common.{◌↔◌, length}
use Rattle.html_urls.specs.Components.{IsUnreservedText}
use Rattle.html_urls.proofs.component.is_unreserved.Given as goal

abbrev pub invariant-looking : goal.invariant-looking
invariant-looking l = IsUnreservedText l.fn.text ↔ IsUnreservedText l.rest

abbrev pub decreases-looking : goal.decreases-looking
decreases-looking l = length l.rest
