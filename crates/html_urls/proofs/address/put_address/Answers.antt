use Rattle.std.proofs.Common.{arith}
use Rattle.std.proofs.lemmas.Bool.Decides.{nat_tests}
use Rattle.hesc_sinks.proofs.Took.{Progress-none, Progress-more, Progress-stop, failed}
use Rattle.html_urls.specs.declared.component.TheConstants.{ADDRESS}
use Rattle.html_urls.specs.Components.{address}
use Rattle.html_urls.proofs.Components.{all_taken}
use Rattle.html_urls.proofs.address.put_address.Goals as goal

pub putting-init : goal.putting-init
putting-init g c = Progress-none _ _

pub putting-preserved : goal.putting-preserved
putting-preserved g c =
    Progress-more c.putting.invariant (address c.first_piece.result.0.now) (address c.first_piece.result.1.now) _ c.first_piece.ensures.parts c.in_ok-put_piece.ensures

pub returns-in_err-put_piece : goal.returns-in_err-put_piece
returns-in_err-put_piece g c =
    failed _ _ _ c.from_residual.result c.from_residual.ensures.0
    (Progress-stop c.putting.invariant (address c.first_piece.result.0.now) (address c.first_piece.result.1.now) _ c.first_piece.ensures.parts c.in_err-put_piece.ensures)

pub returns : goal.returns
returns g c = all_taken ADDRESS _ _ c.putting.rest.now c.args.bytes.now (grind (arith, nat_tests)) c.putting.invariant
