use Rattle.html_json.proofs.Changes.{found_here}
use Rattle.html_json.proofs.encode.escape_at.Goals as goal

pub returns : goal.returns
returns c = found_here c.args.text.now c.utf8.text c.args.place c.requires.within c.requires.sought _ c.from_ascii.ensures
