-- What a byte does in a DOCTYPE.
-- HTML Standard, 13.2.5.54 to 13.2.5.67, where what the standard calls an error has no reading. The
-- name is `html`. 13.2.5.56 looks for a keyword in the six characters that follow: here its letters are
-- held, and once it is whole the state is that after it, 13.2.5.57 or 13.2.5.63. An identifier is read
-- in the same way in either quotes, so the state holds the quote mark that ends it.
use Rattle.std.specs.Prelude.{ℕ, Bool, ◌||◌, List, [], ◌∷◌, ◌++◌, ◌==◌, if◌then◌else◌, bytes_eq, codes}
use Rattle.std.specs.Char.{is_ascii_alphabetic, to_ascii_lowercase}
use Rattle.hesc_specs.specs.Text.Ascii.{double_quote, single_quote, greater_than}
use Rattle.html_tokenizer.specs.declared.slot_place.SlotPlace.TheVariants as place
use Rattle.html_tokenizer.specs.declared.elements.Content.{Content}
use Rattle.html_tokenizer.specs.Tokenizer.Actions.{NewDoctype, SetPublicEmpty, PublicByte, SetSystemEmpty, SystemByte, EmitDoctype}
use Rattle.html_tokenizer.specs.Tokenizer.States as state
use Rattle.html_tokenizer.specs.Tokenizer.Tags.{is_space}
use Rattle.html_tokenizer.specs.Tokenizer.Transitions.{Transition, goes, refuses}

abbrev pub is_quote_mark : ℕ → Bool
is_quote_mark b = b == double_quote || b == single_quote

-- a byte that the standard calls an error in an identifier
abbrev pub is_identifier_error : ℕ → Bool
is_identifier_error b = b == 0 || b == greater_than

-- the `>` of a DOCTYPE
abbrev pub doctype_end_byte : Content → ℕ → Transition
doctype_end_byte content b = if b == greater_than then goes (state.In place.Text) content (EmitDoctype ∷ []) else refuses

-- 13.2.5.54 Before DOCTYPE name state
abbrev pub before_doctype_byte : Content → ℕ → Transition
before_doctype_byte content b =
    if is_space b then goes state.BeforeDoctype content []
    else (if is_ascii_alphabetic b then goes (state.Doctype (to_ascii_lowercase b ∷ [])) content (NewDoctype ∷ [])
    else refuses)

-- 13.2.5.56 After DOCTYPE name state
abbrev pub after_doctype_byte : Content → ℕ → Transition
after_doctype_byte content b =
    if is_space b then goes state.AfterDoctype content []
    else (if is_ascii_alphabetic b then goes (state.DoctypeKeyword (to_ascii_lowercase b ∷ [])) content []
    else doctype_end_byte content b)

-- 13.2.5.55 DOCTYPE name state: the name is `html`
abbrev pub doctype_byte : Content → List ℕ → ℕ → Transition
doctype_byte content name b =
    if is_ascii_alphabetic b then goes (state.Doctype (name ++ to_ascii_lowercase b ∷ [])) content []
    else (if bytes_eq name (codes "html") then after_doctype_byte content b
    else refuses)

-- 13.2.5.57 After DOCTYPE public keyword state, 13.2.5.63 After DOCTYPE system keyword state, and 13.2.5.56 up to there
abbrev pub doctype_keyword_byte : Content → List ℕ → ℕ → Transition
doctype_keyword_byte content word b =
    if bytes_eq word (codes "public") then (if is_space b then goes state.BeforePublic content [] else refuses)
    else (if bytes_eq word (codes "system") then (if is_space b then goes state.BeforeSystem content [] else refuses)
    else (if is_ascii_alphabetic b then goes (state.DoctypeKeyword (word ++ to_ascii_lowercase b ∷ [])) content []
    else refuses))

-- 13.2.5.58 Before DOCTYPE public identifier state
abbrev pub before_public_byte : Content → ℕ → Transition
before_public_byte content b =
    if is_space b then goes state.BeforePublic content []
    else (if is_quote_mark b then goes (state.PublicIdentifier b) content (SetPublicEmpty ∷ [])
    else refuses)

-- 13.2.5.59 DOCTYPE public identifier (double-quoted) state, 13.2.5.60 DOCTYPE public identifier (single-quoted) state
abbrev pub public_byte : ℕ → Content → ℕ → Transition
public_byte mark content b =
    if b == mark then goes state.AfterPublic content []
    else (if is_identifier_error b then refuses
    else goes (state.PublicIdentifier mark) content (PublicByte b ∷ []))

-- 13.2.5.61 After DOCTYPE public identifier state
abbrev pub after_public_byte : Content → ℕ → Transition
after_public_byte content b = if is_space b then goes state.BetweenIdentifiers content [] else doctype_end_byte content b

-- 13.2.5.62 Between DOCTYPE public and system identifiers state
abbrev pub between_identifiers_byte : Content → ℕ → Transition
between_identifiers_byte content b =
    if is_space b then goes state.BetweenIdentifiers content []
    else (if is_quote_mark b then goes (state.SystemIdentifier b) content (SetSystemEmpty ∷ [])
    else doctype_end_byte content b)

-- 13.2.5.64 Before DOCTYPE system identifier state
abbrev pub before_system_byte : Content → ℕ → Transition
before_system_byte content b =
    if is_space b then goes state.BeforeSystem content []
    else (if is_quote_mark b then goes (state.SystemIdentifier b) content (SetSystemEmpty ∷ [])
    else refuses)

-- 13.2.5.65 DOCTYPE system identifier (double-quoted) state, 13.2.5.66 DOCTYPE system identifier (single-quoted) state
abbrev pub system_byte : ℕ → Content → ℕ → Transition
system_byte mark content b =
    if b == mark then goes state.AfterSystem content []
    else (if is_identifier_error b then refuses
    else goes (state.SystemIdentifier mark) content (SystemByte b ∷ []))

-- 13.2.5.67 After DOCTYPE system identifier state
abbrev pub after_system_byte : Content → ℕ → Transition
after_system_byte content b = if is_space b then goes state.AfterSystem content [] else doctype_end_byte content b
