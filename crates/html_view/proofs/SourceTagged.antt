-- What a tag stands for, as it is read.
use Rattle.std.proofs.Common.{ℕ, ◌≡◌, List, [], ◌++◌, Option, Some, None, length, take, sym, ap, subst, ◌∙◌}
use Rattle.html_view.specs.Cursors.{Here, first, here_of}
use Rattle.html_view.specs.Nodes as node
use Rattle.html_view.specs.Nodes.{Asked, Nodes}
use Rattle.html_view.specs.Reading.{AddsBlocks, AddsRead, AddsTag, Gives, IsSource, PartialText, Reads, Skips, StandsFor, Turns, TurnsNot, a_default, a_given_block, a_layout, a_partial, a_section, all_marked, an_unless, asked_partial, both_sides, given_block, opened, sectioned, times_of}
use Rattle.html_view.specs.declared.node.Times.{Times}
use Rattle.html_view.specs.declared.node.Times.TheVariants as times
use Rattle.html_view.specs.declared.source.blocks.Block.{Block}
use Rattle.html_view.specs.declared.source.cursor.Tag.{Tag}
use Rattle.html_view.specs.declared.source.tag.Sign.TheVariants as sign

module _ (partials : List PartialText) (given : List Block) (tag : Tag) where
  pub adds_default : (begun : Option Tag) (here next : Here) (old new : Nodes Asked → Nodes Asked) (after : Nodes Asked)
      → tag.sign ≡ sign.Block → given_block given tag.name.now ≡ None → begun ≡ Some tag
      → AddsRead partials given begun here old new next after → AddsTag partials given tag here old new next after
  adds_default begun here next old new after is none opens adds = record {
    found = adds.found;
    stands = a_default is none (subst (λ b. Reads partials given b here after adds.found next) opens adds.reads);
    same = adds.same;
  }

  pub adds_given : (more : List PartialText) (inner : List Block) (block : Block) (here next end : Here) (old new : Nodes Asked → Nodes Asked) (after : Nodes Asked)
      → tag.sign ≡ sign.Block → given_block given tag.name.now ≡ Some block → Skips tag here next → more ≡ partials → inner ≡ take block.outer given
      → AddsRead more inner (Some block.tag) (here_of block.cursor) old new end after → AddsTag partials given tag here old new next after
  adds_given more inner block here next end old new after is some skips same outer adds = record {
    found = adds.found;
    stands = a_given_block is some skips
        (subst (λ p. Reads p (take block.outer given) (Some block.tag) (here_of block.cursor) after adds.found end) same
        (subst (λ g. Reads more g (Some block.tag) (here_of block.cursor) after adds.found end) outer adds.reads));
    same = adds.same;
  }

  pub adds_layout : (more : List PartialText) (inner before all : List Block) (here start next end : Here) (old new : Nodes Asked → Nodes Asked) (after : Nodes Asked)
      → tag.sign ≡ sign.Layout → asked_partial 1 partials here.text tag.name.now ≡ Some start → before ≡ given → AddsBlocks tag here before all next
      → more ≡ partials → inner ≡ all → AddsRead more inner None start old new end after → AddsTag partials given tag here old new next after
  adds_layout more inner before all here start next end old new after is asks begins blocks same given_is adds =
      let whole : inner ≡ given ++ blocks.blocks = given_is ∙ blocks.same ∙ ap (λ b. b ++ blocks.blocks) begins in
      record {
        found = adds.found;
        stands = a_layout is asks (subst (λ b. Gives (length b) tag here blocks.blocks next) begins blocks.gives)
            (subst (λ p. Reads p (given ++ blocks.blocks) None start after adds.found end) same
            (subst (λ g. Reads more g None start after adds.found end) whole adds.reads));
        same = adds.same;
      }

  pub adds_partial : (text : ℕ) (here start end : Here) (old new : Nodes Asked → Nodes Asked) (after : Nodes Asked)
      → tag.sign ≡ sign.Partial → asked_partial 1 partials text tag.name.now ≡ Some start → here.text ≡ text
      → AddsRead partials given None start old new end after → AddsTag partials given tag here old new here after
  adds_partial text here start end old new after is asks same adds = record {
    found = adds.found;
    stands = a_partial is (ap (λ t. asked_partial 1 partials t tag.name.now) same ∙ asks) adds.reads;
    same = adds.same;
  }

  pub adds_unless : (begun : Option Tag) (here next : Here) (none others old new : Nodes Asked → Nodes Asked) (after : Nodes Asked)
      → tag.sign ≡ sign.Unless → begun ≡ Some tag → AddsRead partials given begun here none others next node.End → ((x : Nodes Asked) → none x ≡ x)
      → new after ≡ old (node.Section (opened tag times.If) node.End (others node.End) after) → AddsTag partials given tag here old new next after
  adds_unless begun here next none others old new after is opens adds empty added = record {
    found = node.Section (opened tag times.If) node.End adds.found after;
    stands = an_unless is (subst (λ b. Reads partials given b here node.End adds.found next) opens adds.reads);
    same = added ∙ ap (λ n. old (node.Section (opened tag times.If) node.End n after)) (adds.same ∙ empty adds.found);
  }

  pub adds_section : (times : Times) (begun : Option Tag) (here next last : Here) (none body old new : Nodes Asked → Nodes Asked) (after : Nodes Asked)
      → times_of tag.sign ≡ Some times → begun ≡ Some tag → AddsRead partials given begun here none body next node.End → ((x : Nodes Asked) → none x ≡ x)
      → TurnsNot tag.name.now next → last ≡ next → new after ≡ old (node.Section (opened tag times) (body node.End) node.End after)
      → AddsTag partials given tag here old new last after
  adds_section times begun here next last none body old new after is opens adds empty other still added =
      let reads = subst (λ b. Reads partials given b here node.End adds.found next) opens adds.reads in
      record {
        found = node.Section (opened tag times) adds.found node.End after;
        stands = subst (λ h. StandsFor partials given tag here after (node.Section (opened tag times) adds.found node.End after) h) (sym still)
            (a_section is reads other);
        same = added ∙ ap (λ n. old (node.Section (opened tag times) n node.End after)) (adds.same ∙ empty adds.found);
      }

  pub adds_sides : (times : Times) (begun turned : Option Tag) (unless : Tag) (spaces : List (List ℕ)) (here middle behind next : Here)
      (none body front others old new : Nodes Asked → Nodes Asked) (after : Nodes Asked)
      → times_of tag.sign ≡ Some times → begun ≡ Some tag → AddsRead partials given begun here none body middle node.End → ((x : Nodes Asked) → none x ≡ x)
      → Turns tag.name.now middle spaces unless behind → turned ≡ Some unless → AddsRead partials given turned behind front others next node.End
      → ((x : Nodes Asked) → front x ≡ all_marked spaces x)
      → ((rest : Nodes Asked) → others node.End ≡ all_marked spaces rest → new after ≡ old (sectioned tag times spaces (body node.End) rest after))
      → AddsTag partials given tag here old new next after
  adds_sides times begun turned unless spaces here middle behind next none body front others old new after is opens adds empty turning turns_is other spaced added =
      record {
        found = sectioned tag times spaces adds.found other.found after;
        stands = both_sides is (subst (λ b. Reads partials given b here node.End adds.found middle) opens adds.reads) turning
            (subst (λ b. Reads partials given b behind node.End other.found next) turns_is other.reads);
        same = added other.found (other.same ∙ spaced other.found)
            ∙ ap (λ n. old (sectioned tag times spaces n other.found after)) (adds.same ∙ empty adds.found);
      }

pub source_read : (partials : List PartialText) (given : List Block) (here next : Here) (source : List ℕ) (none new : Nodes Asked → Nodes Asked)
    → given ≡ [] → here ≡ first 0 source → ((x : Nodes Asked) → none x ≡ x) → AddsRead partials given None here none new next node.End
    → IsSource partials source (new node.End)
source_read partials given here next source none new nothing begins empty adds = record {
  end = next;
  reads = subst (λ n. Reads partials [] None (first 0 source) node.End n next) (sym (adds.same ∙ empty adds.found))
      (subst (λ h. Reads partials [] None h node.End adds.found next) begins
      (subst (λ g. Reads partials g None here node.End adds.found next) nothing adds.reads));
}
