use Rattle.std.proofs.Common.{rules, ◌≡◌, ◌≢◌, ◌++◌, Some, None, take, refl, sym, ap, subst, ◌∙◌, arith}
use Rattle.std.proofs.lemmas.List.{take_min}
use Rattle.html_view.specs.Cursors.{Passes, here_of}
use Rattle.html_view.specs.Kept.{asked_nodes}
use Rattle.html_view.specs.Nodes as node
use Rattle.html_view.specs.Reading.{Closes, Ends, all_marked, asked, asked_partial, marked, spaces_of, partials_of, reads_end, reads_tag, a_braced, a_comment, a_fragment, a_quoted, a_slot}
use Rattle.html_template_source.specs.Sources.{opening}
use Rattle.html_view.specs.declared.node.Times.TheVariants as times
use Rattle.html_view.specs.declared.source.cursor.Tag.{Tag}
use Rattle.html_view.specs.declared.source.tag.Sign.TheVariants as sign
use Rattle.html_view.proofs.Followed.{asked_fragment, asked_markup, asked_slot}
use Rattle.html_view.proofs.SourceReads.{none_before, on_ok, opened_is, section_added, times_once, unless_added}
use Rattle.html_view.proofs.SourceTagged.{adds_default, adds_given, adds_layout, adds_partial, adds_section, adds_sides, adds_unless}
use Rattle.html_view.proofs.source.reader.Reader.+read.Goals as goal

pub read-returns-in-None-clause-nodes : goal.read-returns-in-None-clause-nodes
read-returns-in-None-clause-nodes g t c =
    let passes : Passes (here_of c.loop-piece.cursor) c.in_ok-piece.piece.markup.now None (here_of c.next.new.self) = rw c.in-None.is at c.in_ok-piece.ensures.passes in
    on_ok c.end.result _ _ c.end.ensures.closes
    (λ closes after.
    let ends : Ends c.args.around.begun (here_of c.loop-piece.cursor) c.in_ok-piece.piece.markup.now (here_of c.next.new.self) =
    record { found = None; passes = passes; is_end = tt; closes = closes } in
    let all = c.loop-piece.invariant.leads after (marked c.in_ok-piece.piece.markup.now after) (here_of c.next.new.self) (reads_end ends) in
    record { found = all.0; reads = all.1; same = c.in_ok-add_markup.ensures.nodes after ∙ all.2 })

pub read-returns-in-Some-clause-nodes : goal.read-returns-in-Some-clause-nodes
read-returns-in-Some-clause-nodes g t c =
    let passes : Passes (here_of c.loop-piece.cursor) c.in_ok-piece.piece.markup.now (Some c.in-Some.tag) (here_of c.next.new.self) =
    rw c.in-Some.is at c.in_ok-piece.ensures.passes in
    let is : c.in-Some.tag.sign ≡ sign.End = search rules in
    on_ok c.end-in-Some.result _ _ c.end-in-Some.ensures.closes
    (λ closes after.
    let ends : Ends c.args.around.begun (here_of c.loop-piece.cursor) c.in_ok-piece.piece.markup.now (here_of c.next.new.self) =
    record {
      found = Some c.in-Some.tag;
      passes = passes;
      is_end = is;
      closes = subst (λ (tag : Tag). Closes (Some tag) c.args.around.begun) c.in-Some.tag-is closes;
    } in
    let all = c.loop-piece.invariant.leads after (marked c.in_ok-piece.piece.markup.now after) (here_of c.next.new.self) (reads_end ends) in
    record { found = all.0; reads = all.1; same = c.in_ok-add_markup.ensures.nodes after ∙ all.2 })

pub read_block-returns-in_default-clause-nodes : goal.read_block-returns-in_default-clause-nodes
read_block-returns-in_default-clause-nodes g t c =
    on_ok c.read.result _ _ c.read.ensures.nodes
    (λ adds after. adds_default (partials_of c.args.self.now.partials.now) c.args.self.now.given.now c.args.tag c.in_ok-within.within.begun
    (here_of c.args.cursor.now) (here_of c.read.new.cursor) (asked_nodes c.args.nodes.now.items) (asked_nodes c.read.new.nodes.items) after
    c.requires (sym c.find_block.ensures ∙ c.in_default.is) c.in_ok-within.ensures.begun (adds after))

pub read_block-returns-clause-nodes : goal.read_block-returns-clause-nodes
read_block-returns-clause-nodes g t c =
    let outer : c.with.result.given.now ≡ take c.in-Some.block.outer c.args.self.now.given.now = search (rules, take_min) in
    on_ok c.read-2.result _ _ c.read-2.ensures.nodes
    (λ adds after. adds_given (partials_of c.args.self.now.partials.now) c.args.self.now.given.now c.args.tag (partials_of c.with.result.partials.now) c.with.result.given.now
    c.in-Some.block (here_of c.args.cursor.now) (here_of c.skip.new.cursor) _ (asked_nodes c.args.nodes.now.items) (asked_nodes c.read-2.new.nodes.items) after
    c.requires (sym c.find_block.ensures ∙ c.in-Some.is) c.in_ok-skip.ensures.skips (ap partials_of c.with.ensures.partials) outer (adds after))

pub read_layout-returns-clause-nodes : goal.read_layout-returns-clause-nodes
read_layout-returns-clause-nodes g t c =
    on_ok c.read.result _ _ c.read.ensures.nodes
    (λ adds after. adds_layout (partials_of c.args.self.now.partials.now) c.args.self.now.given.now c.args.tag (partials_of c.with.result.partials.now) c.with.result.given.now
    c.extend_from_slice.new.self.items c.read_blocks.new.given.items (here_of c.args.cursor.now) (here_of c.in_ok-layout.layout) (here_of c.read_blocks.new.cursor) _
    (asked_nodes c.args.nodes.now.items) (asked_nodes c.read.new.nodes.items) after c.requires (ap (λ n. asked_partial 1 (partials_of c.args.self.now.partials.now) n c.args.tag.name.now) (sym c.text.ensures) ∙ c.in_ok-layout.ensures.start)
    (c.in_ok-extend_from_slice.ensures.items ∙ ap (λ x. x ++ c.args.self.now.given.now) c.new-given.ensures.items) c.in_ok-read_blocks.ensures.gives
    (ap partials_of c.with.ensures.partials) (c.with.ensures.given ∙ c.deref.ensures.value) (adds after))

pub read_partial-returns : goal.read_partial-returns
read_partial-returns g t c =
    on_ok c.read.result _ _ c.read.ensures.nodes
    (λ adds here after same. adds_partial (partials_of c.args.self.now.partials.now) c.args.self.now.given.now c.args.tag c.args.text here (here_of c.in_ok-partial.partial) _
    (asked_nodes c.args.nodes.now.items) (asked_nodes c.read.new.nodes.items) after c.requires c.in_ok-partial.ensures.start same (adds after))

pub read_section-returns-in-None-clause-nodes : goal.read_section-returns-in-None-clause-nodes
read_section-returns-in-None-clause-nodes g t c =
    let turns = rw c.in-None.is at c.in_ok-pass.ensures.turns in
    let once = times_once c.args.tag.sign c.args.times c.requires in
    on_ok c.add.result _ _ c.add.ensures.nodes
    (λ added after. adds_section (partials_of c.args.self.now.partials.now) c.args.self.now.given.now c.args.tag c.args.times c.in_ok-within.field-0.begun
    (here_of c.args.cursor.now) (here_of c.read.new.cursor) (here_of c.pass.new.cursor) (asked_nodes c.new-body.result.items) (asked_nodes c.read.new.nodes.items)
    (asked_nodes c.args.nodes.now.items) (asked_nodes c.add.new.nodes.items) after c.requires c.in_ok-within.ensures.begun (c.in_ok-read.ensures.nodes node.End)
    (λ x. none_before c.new-body.result.items x c.new-body.ensures.items) turns.0 turns.1
    (section_added c.opening.result c.args.tag c.args.times c.read.new.nodes c.new-others.result c.args.nodes.now.items c.add.new.nodes.items after
    (opened_is c.opening.result c.args.tag c.args.times c.opening.ensures.name c.opening.ensures.position c.opening.ensures.times once)
    c.new-others.ensures.items (added after)))

pub read_section-returns-in_ok-section-in-Some-clause-nodes : goal.read_section-returns-in_ok-section-in-Some-clause-nodes
read_section-returns-in_ok-section-in-Some-clause-nodes g t c =
    let turns = rw c.in-Some.is at c.in_ok-pass.ensures.turns in
    on_ok c.add-in-Some.result _ _ c.add-in-Some.ensures.nodes
    (λ added after. adds_sides (partials_of c.args.self.now.partials.now) c.args.self.now.given.now c.args.tag c.args.times c.in_ok-within.field-0.begun
    c.in_ok-within-in-Some.field-0.begun c.in-Some.otherwise.tag (spaces_of c.in-Some.otherwise.space.items)
    (here_of c.args.cursor.now) (here_of c.read.new.cursor) (here_of c.pass.new.cursor) (here_of c.read-in-Some.new.cursor)
    (asked_nodes c.new-body.result.items) (asked_nodes c.read.new.nodes.items) (asked_nodes c.add_space.new.nodes.items) (asked_nodes c.read-in-Some.new.nodes.items)
    (asked_nodes c.args.nodes.now.items) (asked_nodes c.add-in-Some.new.nodes.items) after c.requires c.in_ok-within.ensures.begun
    (c.in_ok-read.ensures.nodes node.End) (λ x. none_before c.new-body.result.items x c.new-body.ensures.items) turns
    c.in_ok-within-in-Some.ensures.begun (c.in_ok-read-in-Some.ensures.nodes node.End)
    (λ x. c.in_ok-add_space-in-Some.ensures.nodes x ∙ none_before c.new-others.result.items (all_marked (spaces_of c.in-Some.otherwise.space.items) x) c.new-others.ensures.items)
    (λ rest spaced. added after ∙ ap (asked_nodes c.args.nodes.now.items) (c.in_ok-section-in-Some.ensures.section rest after spaced)))

pub read_tag-returns-in-Comment-clause-nodes : goal.read_tag-returns-in-Comment-clause-nodes
read_tag-returns-in-Comment-clause-nodes g t c = λ after.
    let is : c.args.tag.sign ≡ sign.Comment = search rules in
    record { found = after; stands = a_comment is; same = refl }

pub read_tag-returns-in-Slot-clause-nodes : goal.read_tag-returns-in-Slot-clause-nodes
read_tag-returns-in-Slot-clause-nodes g t c =
    let is : c.args.tag.sign ≡ sign.Slot = search rules in
    on_ok c.add.result _ _ c.add.ensures.nodes
    (λ added after. record {
      found = node.Slot (asked c.args.tag) after;
      stands = a_slot is;
      same = added after ∙ ap (asked_nodes c.args.nodes.now.items) (asked_slot _ _ after);
    })

pub read_tag-returns-in-Fragment-clause-nodes : goal.read_tag-returns-in-Fragment-clause-nodes
read_tag-returns-in-Fragment-clause-nodes g t c =
    let is : c.args.tag.sign ≡ sign.Fragment = search rules in
    on_ok c.add-in-Fragment.result _ _ c.add-in-Fragment.ensures.nodes
    (λ added after. record {
      found = node.Fragment (asked c.args.tag) after;
      stands = a_fragment is;
      same = added after ∙ ap (asked_nodes c.args.nodes.now.items) (asked_fragment _ _ after);
    })

pub read_tag-returns-in-Braced-clause-nodes : goal.read_tag-returns-in-Braced-clause-nodes
read_tag-returns-in-Braced-clause-nodes g t c =
    let is : c.args.tag.sign ≡ sign.Braced = search rules in
    on_ok c.add-in-Braced.result _ _ c.add-in-Braced.ensures.nodes
    (λ added after. record {
      found = node.Fragment (asked c.args.tag) after;
      stands = a_braced is;
      same = added after ∙ ap (asked_nodes c.args.nodes.now.items) (asked_fragment _ _ after);
    })

pub read_tag-returns-in-Quoted-clause-nodes : goal.read_tag-returns-in-Quoted-clause-nodes
read_tag-returns-in-Quoted-clause-nodes g t c =
    let is : c.args.tag.sign ≡ sign.Quoted = search rules in
    on_ok c.add-in-Quoted.result _ _ c.add-in-Quoted.ensures.nodes
    (λ added after. record {
      found = node.Markup opening after;
      stands = a_quoted is;
      same = added after ∙ ap (asked_nodes c.args.nodes.now.items) (asked_markup _ _ _ after);
    })

pub read_tag-returns-in-Partial-clause-nodes : goal.read_tag-returns-in-Partial-clause-nodes
read_tag-returns-in-Partial-clause-nodes g t c =
    on_ok c.read_partial.result _ _ c.read_partial.ensures (λ adds after. adds (here_of c.args.cursor.now) after (sym c.text.ensures))

pub read_unless-returns-clause-nodes : goal.read_unless-returns-clause-nodes
read_unless-returns-clause-nodes g t c =
    let other : times.If ≢ times.Once = search rules in
    on_ok c.add.result _ _ c.add.ensures.nodes
    (λ added after. adds_unless (partials_of c.args.self.now.partials.now) c.args.self.now.given.now c.args.tag c.in_ok-within.field-0.begun
    (here_of c.args.cursor.now) (here_of c.read.new.cursor) (asked_nodes c.new-others.result.items) (asked_nodes c.read.new.nodes.items)
    (asked_nodes c.args.nodes.now.items) (asked_nodes c.add.new.nodes.items) after c.requires c.in_ok-within.ensures.begun (c.in_ok-read.ensures.nodes node.End)
    (λ x. none_before c.new-others.result.items x c.new-others.ensures.items)
    (unless_added c.opening.result c.args.tag times.If c.new-body.result c.read.new.nodes c.args.nodes.now.items c.add.new.nodes.items after
    (opened_is c.opening.result c.args.tag times.If c.opening.ensures.name c.opening.ensures.position c.opening.ensures.times other)
    c.new-body.ensures.items (added after)))

pub read-loop-piece-preserved : goal.read-loop-piece-preserved
read-loop-piece-preserved g t c =
    let passes : Passes (here_of c.loop-piece.cursor) c.in_ok-piece.piece.markup.now (Some c.in-Some-2.tag) (here_of c.next.new.self) =
    rw c.in-Some-2.is at c.in_ok-piece.ensures.passes in
    record {
      shorter = omega (arith, c.in_ok-read_tag-in-Some-2.ensures.shorter);
      leads = λ after found next more.
          let adds = c.in_ok-read_tag-in-Some-2.ensures.nodes found in
          let all = c.loop-piece.invariant.leads after (marked c.in_ok-piece.piece.markup.now adds.found) next (reads_tag passes adds.stands more) in
          (all.0, all.1, adds.same ∙ c.in_ok-add_markup.ensures.nodes adds.found ∙ all.2);
    }
