use Rattle.std.proofs.Common.{rules}
use Rattle.html_template.specs.Fragments.{markup_of}
use Rattle.html_view.specs.Kept.{named_of}
use Rattle.html_view.specs.Values.{stack_of}
use Rattle.html_view.proofs.Putting.{fragment_begun, fragment_put}
use Rattle.html_view.proofs.unroll.put_fragment.Goals as goal

pub returns-in-Ok-put_markup-clause-puts : goal.returns-in-Ok-put_markup-clause-puts
returns-in-Ok-put_markup-clause-puts g c =
    fragment_put (named_of c.args.slot.now) (stack_of c.args.around.now) (markup_of c.in-Ok.fragment) (g.S.Sink.seen c.args.sink.now).taken
    (g.S.Sink.seen c.put_markup.new.sink).taken (search (rules, c.in-Ok.ensures)) (search (rules, c.in-Ok-put_markup.ensures.taken))

pub returns-in-Err-put_markup-clause-puts : goal.returns-in-Err-put_markup-clause-puts
returns-in-Err-put_markup-clause-puts g c =
    fragment_begun (named_of c.args.slot.now) (stack_of c.args.around.now) (markup_of c.in-Ok.fragment) (g.S.Sink.seen c.args.sink.now).taken
    (g.S.Sink.seen c.put_markup.new.sink).taken (search (rules, c.in-Ok.ensures)) (search (rules, c.in-Err-put_markup.ensures.taken))
