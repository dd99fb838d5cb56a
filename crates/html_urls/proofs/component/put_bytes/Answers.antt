use Rattle.std.proofs.Common.{arith}
use Rattle.std.proofs.lemmas.Bool.Decides.{nat_tests}
use Rattle.hesc_sinks.proofs.Took.{Progress-none, Progress-more, Progress-stop, failed}
use Rattle.html_urls.specs.declared.component.TheConstants.{COMPONENT}
use Rattle.html_urls.specs.Components.{component}
use Rattle.html_urls.proofs.Components.{all_taken}
use Rattle.html_urls.proofs.component.put_bytes.Goals as goal

pub putting-init : goal.putting-init
putting-init g c = Progress-none _ _

pub putting-preserved : goal.putting-preserved
putting-preserved g c =
    Progress-more c.putting.invariant (component c.first_block.result.0.now) (component c.first_block.result.1.now) _ c.first_block.ensures.parts c.in_ok-put_block.ensures

pub returns-in_err-put_block : goal.returns-in_err-put_block
returns-in_err-put_block g c =
    failed _ _ _ c.from_residual.result c.from_residual.ensures.0
    (Progress-stop c.putting.invariant (component c.first_block.result.0.now) (component c.first_block.result.1.now) _ c.first_block.ensures.parts c.in_err-put_block.ensures)

pub returns : goal.returns
returns g c = all_taken COMPONENT _ _ c.putting.rest.now c.args.bytes.now (grind (arith, nat_tests)) c.putting.invariant
