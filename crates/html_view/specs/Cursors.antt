-- Reading a text: the first tag from here, and the markup before it.
use Rattle.std.specs.Prelude.{◌≡◌, ◌≢◌, ℕ, ◌+◌, Bool, true, false, List, ◌∷◌, ◌++◌, Option, Some, None, length, if◌then◌else◌}
use Rattle.std.specs.Str.{trim_start}
use Rattle.html_view.specs.Lines.{before_line, behind_line}
use Rattle.html_template_source.specs.Sources.{Lacks, closing, opening}
use Rattle.html_view.specs.Tags.{IsTag, closing_of, may_be_lone}
use Rattle.html_view.specs.declared.faults.Position.{Position}
use Rattle.html_view.specs.declared.faults.TagFault.TheVariants.{Unclosed}
use Rattle.html_view.specs.declared.faults.ViewFault.{ViewFault}
use Rattle.html_view.specs.declared.faults.ViewFault.TheVariants as view
use Rattle.html_view.specs.declared.source.cursor.Cursor.{Cursor}
use Rattle.html_view.specs.declared.source.cursor.Tag.{Tag}
use Rattle.html_view.specs.declared.source.tag.Sign.{Sign}

-- the number of a text, how many of its bytes were read, those that are left, and whether a line begins with them
pub record Here : Type 0 where
  pub text : ℕ
  pub byte : ℕ
  pub rest : List ℕ
  pub begins_line : Bool

abbrev pub here_of : Cursor → Here
here_of cursor = record { text = cursor.text; byte = cursor.byte; rest = cursor.rest.now; begins_line = cursor.begins_line }

-- the beginning of a text
abbrev pub first : ℕ → List ℕ → Here
first text source = record { text = text; byte = 0; rest = source; begins_line = true }

abbrev pub position : Here → Position
position here = record { text = here.text; byte = here.byte }

-- what is left of the markup before a tag, and of the bytes behind it
pub record Left : Type 0 where
  pub markup : List ℕ
  pub rest : List ℕ
  pub begins_line : Bool

abbrev pub all_left : List ℕ → List ℕ → Left
all_left before behind = record { markup = before; rest = behind; begins_line = false }

abbrev pub lone_left : List ℕ → List ℕ → Option (List ℕ) → Option (List ℕ) → Left
lone_left before behind (Some markup) (Some rest) = record { markup = markup; rest = rest; begins_line = true }
lone_left before behind other another = all_left before behind

-- a tag that is all of its line takes the line with it
abbrev pub left : Sign → Bool → List ℕ → List ℕ → Left
left sign begins before behind =
    if may_be_lone sign then lone_left before behind (before_line begins before) (behind_line behind) else all_left before behind

-- behind a tag, of whose text this is left
abbrev pub IsBehind : Here → Left → Here → Type 0
IsBehind here left next =
    (next.text ≡ here.text) × (next.byte + length next.rest ≡ here.byte + length here.rest) × (next.rest ≡ left.rest)
    × (next.begins_line ≡ left.begins_line)

abbrev pub brace : ℕ
brace = 123

-- behind white space stands something else than a brace
abbrev pub IsAtText : Here → Type 0
IsAtText here = (letter : ℕ) × (bytes : List ℕ) × (trim_start here.rest ≡ letter ∷ bytes) × (letter ≢ brace)

-- the first tag from here, and the markup before it
pub record PassesTag (here : Here) (markup : List ℕ) (tag : Tag) (next : Here) : Type 0 where
  pub before : List ℕ
  pub inside : List ℕ
  pub behind : List ℕ
  pub whole : here.rest ≡ before ++ (opening ++ (inside ++ (closing_of tag.sign ++ behind)))
  pub first : Lacks opening before
  pub closed : Lacks closing inside
  pub tag_is : IsTag tag.sign tag.name.now inside
  pub place : tag.position ≡ record { text = here.text; byte = here.byte + length before }
  pub left_is : markup ≡ (left tag.sign here.begins_line before behind).markup
  pub next_is : IsBehind here (left tag.sign here.begins_line before behind) next

-- or the last markup, if there is no tag
abbrev pub Passes : Here → List ℕ → Option Tag → Here → Type 0
Passes here markup (Some tag) next = PassesTag here markup tag next
Passes here markup None next = (markup ≡ here.rest) × Lacks opening here.rest

-- ---- faults

-- `{{` stands first from here behind these bytes, at this place
pub record OpensAt (here : Here) (place : Position) (opened : List ℕ) : Type 0 where
  pub before : List ℕ
  pub whole : here.rest ≡ before ++ (opening ++ opened)
  pub first : Lacks opening before
  pub place_is : place ≡ record { text = here.text; byte = here.byte + length before }

-- where no `}}` follows the tag is unclosed, and else what stands before that is no tag
abbrev pub AnswersTag : Here → ViewFault → Type 0
AnswersTag here (view.Tag place why) = (opened : List ℕ) × OpensAt here place opened × (why ≡ Unclosed → Lacks closing opened)
AnswersTag here other = ⊥
