use Rattle.html_urls.proofs.Encoded.Digits.{stored_signs}
use Rattle.html_urls.proofs.component.lanes.store_eight.Goals as goal

pub returns : goal.returns
returns c = stored_signs c.args.digits c.args.room.now c.args.place c.requires.long c.requires.fits
