use Rattle.std.proofs.Common.{[]}
use Rattle.std.proofs.lemmas.Result.{on_ok_weaker}
use Rattle.html_template.proofs.Joined.{no_page}
use Rattle.hesc_speed.proofs.slots.append_by_template.Goals as goal

-- behind no page the page of the template stands alone
pub returns : goal.returns
returns c =
    on_ok_weaker c.append.result (λ joins. rw c.requires.parts at joins [] [] (rw c.requires.empty no_page)) c.append.ensures.joins
