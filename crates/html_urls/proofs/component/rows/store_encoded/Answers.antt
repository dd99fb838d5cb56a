use Rattle.html_urls.proofs.Encoded.Blocks.{stored_row}
use Rattle.std.proofs.Common.{arith}
use Rattle.html_urls.proofs.Encoded.Rows.{count_is_few}
use Rattle.html_urls.proofs.component.rows.store_encoded.Goals as goal

pub returns : goal.returns
returns c =
    stored_row c.args.room.now c.row_of-count.result.0 _ c.args.place 4 c.row_of-count.result.1 (omega (arith, c.row_of-count.type_inv)) c.row_of-count.ensures.bytes (omega (arith, count_is_few _ _ c.row_of-count.ensures.count)) c.requires
