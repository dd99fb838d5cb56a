use Rattle.html_urls.proofs.Encoded.Digits.{stored_escapes}
use Rattle.html_urls.proofs.component.lanes.store_escapes.Goals as goal

pub returns : goal.returns
returns c = stored_escapes c.args.v c.digits_of.result.0 c.digits_of.result.1 c.args.room.now c.store_eight-end.new.room _ c.args.place _ _ c.requires.long c.requires.all c.digits_of.ensures.high c.digits_of.ensures.low c.store_eight-end.ensures c.store_eight.ensures
