-- What a byte does after `<!` and in a comment.
-- HTML Standard, 13.2.5.41 to 13.2.5.45, 13.2.5.50, 13.2.5.51 and 13.2.5.53, where what the standard
-- calls an error has no reading. 13.2.5.46 to 13.2.5.49 tell errors only: they append and end as
-- 13.2.5.45 does.
use Rattle.std.specs.Prelude.{ℕ, List, [], ◌∷◌, ◌++◌, ◌==◌, if◌then◌else◌, bytes_eq, codes}
use Rattle.std.specs.Char.{to_ascii_lowercase}
use Rattle.hesc_specs.specs.Text.Ascii.{greater_than}
use Rattle.html_tokenizer.specs.declared.slot_place.SlotPlace.TheVariants as place
use Rattle.html_tokenizer.specs.declared.elements.Content.{Content}
use Rattle.html_tokenizer.specs.Tokenizer.Actions.{NewComment, CommentByte, EmitComment}
use Rattle.html_tokenizer.specs.Tokenizer.States as state
use Rattle.html_tokenizer.specs.Tokenizer.Tags.{exclamation_mark, is_space}
use Rattle.html_tokenizer.specs.Tokenizer.Transitions.{Transition, goes, refuses, reconsumes}

abbrev pub dash : ℕ
dash = 45

-- 13.2.5.42 Markup declaration open state: `--`, or `doctype` in any case, and after it 13.2.5.53 DOCTYPE state
abbrev pub declaration_byte : Content → List ℕ → ℕ → Transition
declaration_byte content word b =
    if bytes_eq word (codes "-") then (if b == dash then goes state.CommentStart content (NewComment ∷ []) else refuses)
    else (if bytes_eq word (codes "doctype") then (if is_space b then goes state.BeforeDoctype content [] else refuses)
    else (if b == greater_than then refuses
    else goes (state.Declaration (word ++ to_ascii_lowercase b ∷ [])) content []))

-- 13.2.5.41 Bogus comment state
abbrev pub bogus_comment_byte : Content → ℕ → Transition
bogus_comment_byte content b =
    if b == greater_than then goes (state.In place.Text) content (EmitComment ∷ [])
    else goes state.BogusComment content (CommentByte b ∷ [])

-- 13.2.5.45 Comment state
abbrev pub comment_byte : Content → ℕ → Transition
comment_byte content b = if b == dash then goes state.CommentDash content [] else goes state.Comment content (CommentByte b ∷ [])

-- 13.2.5.43 Comment start state
abbrev pub comment_start_byte : Content → ℕ → Transition
comment_start_byte content b =
    if b == dash then goes state.CommentStartDash content []
    else (if b == greater_than then refuses
    else comment_byte content b)

-- 13.2.5.44 Comment start dash state
abbrev pub comment_start_dash_byte : Content → ℕ → Transition
comment_start_dash_byte content b =
    if b == dash then goes state.CommentEnd content []
    else (if b == greater_than then refuses
    else reconsumes (CommentByte dash ∷ []) (comment_byte content b))

-- 13.2.5.50 Comment end dash state
abbrev pub comment_dash_byte : Content → ℕ → Transition
comment_dash_byte content b =
    if b == dash then goes state.CommentEnd content []
    else reconsumes (CommentByte dash ∷ []) (comment_byte content b)

-- 13.2.5.51 Comment end state
abbrev pub comment_end_byte : Content → ℕ → Transition
comment_end_byte content b =
    if b == greater_than then goes (state.In place.Text) content (EmitComment ∷ [])
    else (if b == exclamation_mark then refuses
    else (if b == dash then goes state.CommentEnd content (CommentByte dash ∷ [])
    else reconsumes (CommentByte dash ∷ CommentByte dash ∷ []) (comment_byte content b)))
