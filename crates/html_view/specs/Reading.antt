-- Which nodes a source has: a rule for each tag.
use Rattle.std.specs.Prelude.{◌≡◌, ◌≢◌, ⊤, ℕ, ◌+◌, Bool, true, false, ◌&&◌, ◌||◌, List, [], ◌∷◌, ◌++◌, ◌==◌, nat_lt, Option, Some, None, bytes_eq, length, map, take, if◌then◌else◌}
use Rattle.std.specs.Borrow.{Bor}
use Rattle.std.specs.Str.{trim}
use Rattle.html_view.specs.Cursors.{Here, IsAtText, Passes, first, here_of}
use Rattle.html_view.specs.Names.{words_of}
use Rattle.html_view.specs.Nodes as node
use Rattle.html_view.specs.Nodes.{Asked, Nodes, Opening}
use Rattle.html_template_source.specs.Sources.{Lacks, opening}
use Rattle.html_view.specs.declared.faults.TagFault.TheVariants.{Unended, Unopened}
use Rattle.html_view.specs.declared.faults.ViewFault.{ViewFault}
use Rattle.html_view.specs.declared.faults.ViewFault.TheVariants as view
use Rattle.html_view.specs.declared.node.Times.{Times}
use Rattle.html_view.specs.declared.node.Times.TheVariants as times
use Rattle.html_view.specs.declared.node.Times.TheVariants.{Whether}
use Rattle.html_view.specs.declared.source.blocks.Block.{Block}
use Rattle.html_view.specs.declared.source.cursor.Piece.{Piece}
use Rattle.html_view.specs.declared.source.cursor.Tag.{Tag}
use Rattle.html_view.specs.declared.source.tag.Sign.{Sign}
use Rattle.html_view.specs.declared.source.tag.Sign.TheVariants as sign
use Rattle.html_view.specs.declared.source.tag.Sign.TheVariants.{Braced, Comment, Each, Fragment, If, Unless, Layout, Partial, Quoted, Slot}

-- ---- what ends

abbrev pub has_end : Sign → Bool
has_end Each = true
has_end If = true
has_end Unless = true
has_end Layout = true
has_end sign.Block = true
has_end other = false

abbrev pub IsEnd : Option Tag → Type 0
IsEnd None = ⊤
IsEnd (Some tag) = tag.sign ≡ sign.End

-- a tag ends one of its name, and the text ends where no tag is open
abbrev pub Closes : Option Tag → Option Tag → Type 0
Closes None None = ⊤
Closes (Some end) (Some begun) = end.name.now ≡ begun.name.now
Closes found begun = ⊥

-- and else this is at fault
abbrev pub end_fault : Option Tag → Option Tag → Option ViewFault
end_fault None None = None
end_fault None (Some begun) = Some (view.Tag begun.position Unended)
end_fault (Some end) None = Some (view.Tag end.position Unopened)
end_fault (Some end) (Some begun) = if bytes_eq end.name.now begun.name.now then None else Some (view.Tag end.position Unopened)

-- what is open ends behind this markup
pub record Ends (begun : Option Tag) (here : Here) (markup : List ℕ) (next : Here) : Type 0 where
  pub found : Option Tag
  pub passes : Passes here markup found next
  pub is_end : IsEnd found
  pub closes : Closes found begun

-- what is open is passed: its end, and the end of each tag before that
pub data Skips : Tag → Here → Here → Type 0 where
  skips_to_end : {begun : Tag} {here next : Here} {markup : List ℕ} → Ends (Some begun) here markup next → Skips begun here next
  skips_within : {begun tag : Tag} {here middle behind next : Here} {markup : List ℕ} → Passes here markup (Some tag) middle
      → has_end tag.sign ≡ true → Skips tag middle behind → Skips begun behind next → Skips begun here next
  skips_past : {begun tag : Tag} {here middle next : Here} {markup : List ℕ} → Passes here markup (Some tag) middle
      → has_end tag.sign ≡ false → tag.sign ≢ sign.End → Skips begun middle next → Skips begun here next

-- ---- partials

pub record PartialText : Type 0 where
  pub name : List ℕ
  pub source : List ℕ

abbrev pub partials_of : List (Bor (List ℕ) × Bor (List ℕ)) → List PartialText
partials_of partials = map (λ p. record { name = p.0.now; source = p.1.now }) partials

-- a partial may ask for those before it, and the source, whose number is 0, for each
abbrev pub may_ask : ℕ → ℕ → Bool
may_ask text partial = (text == 0) || nat_lt partial text

abbrev pub or_else : Option Here → Option Here → Option Here
or_else (Some found) other = Some found
or_else None other = other

-- the last partial of a name that a text may ask for, among those that are numbered from here
abbrev pub asked_partial : ℕ → List PartialText → ℕ → List ℕ → Option Here
asked_partial number [] text name = None
asked_partial number (partial ∷ partials) text name =
    or_else (asked_partial (number + 1) partials text name)
    (if bytes_eq partial.name name && may_ask text number then Some (first number partial.source) else None)

-- ---- blocks

-- the block that is given furthest out
abbrev pub given_block : List Block → List ℕ → Option Block
given_block [] name = None
given_block (block ∷ given) name = if bytes_eq block.tag.name.now name then Some block else given_block given name

-- the tag of a layout is passed, in which these blocks stand. So many blocks are given further out
pub data Gives (outer : ℕ) : Tag → Here → List Block → Here → Type 0 where
  gives_none : {begun : Tag} {here next : Here} {markup : List ℕ} → Ends (Some begun) here markup next → Gives outer begun here [] next
  gives_block : {begun : Tag} {block : Block} {blocks : List Block} {here behind next : Here} {markup : List ℕ}
      → Passes here markup (Some block.tag) (here_of block.cursor) → block.tag.sign ≡ sign.Block → block.outer ≡ outer
      → Skips block.tag (here_of block.cursor) behind → Gives outer begun behind blocks next
      → Gives outer begun here (block ∷ blocks) next
  gives_behind : {begun tag : Tag} {blocks : List Block} {here middle behind next : Here} {markup : List ℕ}
      → Passes here markup (Some tag) middle → has_end tag.sign ≡ true → tag.sign ≢ sign.Block
      → Skips tag middle behind → Gives outer begun behind blocks next → Gives outer begun here blocks next
  gives_past : {begun tag : Tag} {blocks : List Block} {here middle next : Here} {markup : List ℕ}
      → Passes here markup (Some tag) middle → has_end tag.sign ≡ false → tag.sign ≢ sign.End
      → Gives outer begun middle blocks next → Gives outer begun here blocks next

-- ---- nodes

abbrev pub marked : List ℕ → Nodes Asked → Nodes Asked
marked [] after = after
marked (b ∷ bytes) after = node.Markup (b ∷ bytes) after

abbrev pub asked : Tag → Asked
asked tag = record { name = words_of tag.name.now; position = tag.position }

abbrev pub opened : Tag → Times → Opening
opened tag times = record { name = words_of tag.name.now; position = tag.position; times = times }

abbrev pub times_of : Sign → Option Times
times_of Each = Some times.Each
times_of If = Some times.If
times_of other = None

-- ---- the two sides of a section

abbrev pub is_space : List ℕ → Bool
is_space bytes = length (trim bytes) == 0

abbrev pub spaces_of : List Piece → List (List ℕ)
spaces_of pieces = map (λ piece. piece.markup.now) pieces

-- markup, if there is any
abbrev pub with_space : List ℕ → List (List ℕ) → List (List ℕ)
with_space [] spaces = spaces
with_space (b ∷ bytes) spaces = (b ∷ bytes) ∷ spaces

abbrev pub all_marked : List (List ℕ) → Nodes Asked → Nodes Asked
all_marked [] after = after
all_marked (space ∷ spaces) after = node.Markup space (all_marked spaces after)

-- behind a section of this name nothing stands before `{{^name}}` but white space and comments
pub data Turns (name : List ℕ) : Here → List (List ℕ) → Tag → Here → Type 0 where
  turns : {tag : Tag} {here next : Here} {markup : List ℕ} → Passes here markup (Some tag) next → is_space markup ≡ true
      → tag.sign ≡ Unless → tag.name.now ≡ name → Turns name here (with_space markup []) tag next
  turns_behind : {tag unless : Tag} {here middle next : Here} {markup : List ℕ} {spaces : List (List ℕ)}
      → Passes here markup (Some tag) middle → is_space markup ≡ true → tag.sign ≡ Comment
      → Turns name middle spaces unless next → Turns name here (with_space markup spaces) unless next

-- or something does
pub data TurnsNot (name : List ℕ) : Here → Type 0 where
  at_text : {here : Here} → IsAtText here → TurnsNot name here
  at_end : {here : Here} → Lacks opening here.rest → TurnsNot name here
  at_markup : {tag : Tag} {here next : Here} {markup : List ℕ} → Passes here markup (Some tag) next → is_space markup ≡ false
      → TurnsNot name here
  at_tag : {tag : Tag} {here next : Here} {markup : List ℕ} → Passes here markup (Some tag) next → tag.sign ≢ Comment
      → (tag.sign ≡ Unless → tag.name.now ≢ name) → TurnsNot name here
  at_comment : {tag : Tag} {here middle : Here} {markup : List ℕ} → Passes here markup (Some tag) middle → is_space markup ≡ true
      → tag.sign ≡ Comment → TurnsNot name middle → TurnsNot name here

-- a section and its other nodes. Where white space stands between them, it stands behind the body and before the other nodes
abbrev pub sectioned : Tag → Times → List (List ℕ) → Nodes Asked → Nodes Asked → Nodes Asked → Nodes Asked
sectioned tag times [] body others after = node.Section (opened tag times) body others after
sectioned tag times (space ∷ spaces) body others after =
    node.Section (opened tag Whether) (node.Section (opened tag times) body node.End (all_marked (space ∷ spaces) node.End))
    (all_marked (space ∷ spaces) others) after

-- ---- reading

mutual
  -- these nodes stand from here up to the end of what is open, and the last ones after it
  pub data Reads (partials : List PartialText) : List Block → Option Tag → Here → Nodes Asked → Nodes Asked → Here → Type 0 where
    reads_end : {given : List Block} {begun : Option Tag} {here next : Here} {markup : List ℕ} {after : Nodes Asked}
        → Ends begun here markup next → Reads partials given begun here after (marked markup after) next
    reads_tag : {given : List Block} {begun : Option Tag} {tag : Tag} {here middle behind next : Here} {markup : List ℕ}
        {after more found : Nodes Asked} → Passes here markup (Some tag) middle
        → StandsFor partials given tag middle more found behind → Reads partials given begun behind after more next
        → Reads partials given begun here after (marked markup found) next

  -- a tag stands for nodes, with the last ones after it. It is read from behind the tag
  pub data StandsFor (partials : List PartialText) : List Block → Tag → Here → Nodes Asked → Nodes Asked → Here → Type 0 where
    a_comment : {given : List Block} {tag : Tag} {here : Here} {after : Nodes Asked} → tag.sign ≡ Comment
        → StandsFor partials given tag here after after here
    a_slot : {given : List Block} {tag : Tag} {here : Here} {after : Nodes Asked} → tag.sign ≡ Slot
        → StandsFor partials given tag here after (node.Slot (asked tag) after) here
    a_fragment : {given : List Block} {tag : Tag} {here : Here} {after : Nodes Asked} → tag.sign ≡ Fragment
        → StandsFor partials given tag here after (node.Fragment (asked tag) after) here
    a_braced : {given : List Block} {tag : Tag} {here : Here} {after : Nodes Asked} → tag.sign ≡ Braced
        → StandsFor partials given tag here after (node.Fragment (asked tag) after) here
    a_quoted : {given : List Block} {tag : Tag} {here : Here} {after : Nodes Asked} → tag.sign ≡ Quoted
        → StandsFor partials given tag here after (node.Markup opening after) here
    a_section : {given : List Block} {tag : Tag} {times : Times} {here next : Here} {after body : Nodes Asked}
        → times_of tag.sign ≡ Some times → Reads partials given (Some tag) here node.End body next → TurnsNot tag.name.now next
        → StandsFor partials given tag here after (node.Section (opened tag times) body node.End after) next
    both_sides : {given : List Block} {tag unless : Tag} {times : Times} {here middle behind next : Here} {spaces : List (List ℕ)}
        {after body others : Nodes Asked} → times_of tag.sign ≡ Some times
        → Reads partials given (Some tag) here node.End body middle → Turns tag.name.now middle spaces unless behind
        → Reads partials given (Some unless) behind node.End others next
        → StandsFor partials given tag here after (sectioned tag times spaces body others after) next
    an_unless : {given : List Block} {tag : Tag} {here next : Here} {after others : Nodes Asked} → tag.sign ≡ Unless
        → Reads partials given (Some tag) here node.End others next
        → StandsFor partials given tag here after (node.Section (opened tag times.If) node.End others after) next
    a_partial : {given : List Block} {tag : Tag} {here start end : Here} {after found : Nodes Asked} → tag.sign ≡ Partial
        → asked_partial 1 partials here.text tag.name.now ≡ Some start → Reads partials given None start after found end
        → StandsFor partials given tag here after found here
    a_layout : {given blocks : List Block} {tag : Tag} {here start end next : Here} {after found : Nodes Asked}
        → tag.sign ≡ Layout → asked_partial 1 partials here.text tag.name.now ≡ Some start
        → Gives (length given) tag here blocks next → Reads partials (given ++ blocks) None start after found end
        → StandsFor partials given tag here after found next
    -- where a block is not given, what stands in it
    a_default : {given : List Block} {tag : Tag} {here next : Here} {after found : Nodes Asked} → tag.sign ≡ sign.Block
        → given_block given tag.name.now ≡ None → Reads partials given (Some tag) here after found next
        → StandsFor partials given tag here after found next
    -- and else what is given, read with the blocks that are given further out
    a_given_block : {given : List Block} {block : Block} {tag : Tag} {here end next : Here} {after found : Nodes Asked}
        → tag.sign ≡ sign.Block → given_block given tag.name.now ≡ Some block → Skips tag here next
        → Reads partials (take block.outer given) (Some block.tag) (here_of block.cursor) after found end
        → StandsFor partials given tag here after found next

-- nodes that were read are added to those before
pub record AddsRead (partials : List PartialText) (given : List Block) (begun : Option Tag) (here : Here)
    (old new : Nodes Asked → Nodes Asked) (next : Here) (after : Nodes Asked) : Type 0 where
  pub found : Nodes Asked
  pub reads : Reads partials given begun here after found next
  pub same : new after ≡ old found

pub record AddsTag (partials : List PartialText) (given : List Block) (tag : Tag) (here : Here)
    (old new : Nodes Asked → Nodes Asked) (next : Here) (after : Nodes Asked) : Type 0 where
  pub found : Nodes Asked
  pub stands : StandsFor partials given tag here after found next
  pub same : new after ≡ old found

-- blocks of a layout are added to those before
pub record AddsBlocks (layout : Tag) (here : Here) (old new : List Block) (next : Here) : Type 0 where
  pub blocks : List Block
  pub gives : Gives (length old) layout here blocks next
  pub same : new ≡ old ++ blocks

-- the nodes of a source
pub record IsSource (partials : List PartialText) (source : List ℕ) (nodes : Nodes Asked) : Type 0 where
  pub end : Here
  pub reads : Reads partials [] None (first 0 source) node.End nodes end
