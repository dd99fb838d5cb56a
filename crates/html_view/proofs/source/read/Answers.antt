use Rattle.std.proofs.Common.{refl}
use Rattle.html_view.specs.Cursors.{here_of}
use Rattle.html_view.specs.Kept.{asked_nodes}
use Rattle.html_view.specs.Nodes as node
use Rattle.html_view.specs.Reading.{partials_of}
use Rattle.html_view.proofs.SourceReads.{none_before}
use Rattle.html_view.proofs.SourceTagged.{source_read}
use Rattle.html_view.proofs.source.read.Goals as goal

pub returns : goal.returns
returns g c =
    source_read (partials_of c.args.partials.now) _ (here_of c.new.result) (here_of c.read.new.cursor) c.args.source.now (asked_nodes c.new-nodes.result.items)
    (asked_nodes c.read.new.nodes.items) refl c.new.ensures (λ x. none_before c.new-nodes.result.items x c.new-nodes.ensures.items)
    (c.in_ok-read.ensures.nodes node.End)
