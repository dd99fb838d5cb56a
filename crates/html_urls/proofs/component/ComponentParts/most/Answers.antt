use Rattle.std.proofs.Common.{arith}
use Rattle.html_urls.proofs.Components.{length-component}
use Rattle.html_urls.proofs.component.ComponentParts.most.Goals as goal

pub returns : goal.returns
returns c small = omega (arith, length-component c.args.self.now.0.now, c.saturating_mul.ensures, small)
