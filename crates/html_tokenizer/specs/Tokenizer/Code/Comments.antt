-- A byte of code that leads on in the code, and what a byte does in a comment of a script or a style.
-- ECMAScript, 12.4 Comments; CSS Syntax Module Level 3, 4.3.2 Consume comments.
use Rattle.std.specs.Prelude.{ℕ, Bool, ◌||◌, [], ◌∷◌, ◌==◌, if◌then◌else◌}
use Rattle.hesc_specs.specs.Text.Ascii.{line_feed, carriage_return, slash}
use Rattle.html_tokenizer.specs.declared.states.Code.{Code}
use Rattle.html_tokenizer.specs.declared.states.Code.TheVariants as code
use Rattle.html_tokenizer.specs.declared.elements.Content.{Content}
use Rattle.html_tokenizer.specs.Tokenizer.Actions.{CodeByte}
use Rattle.html_tokenizer.specs.Tokenizer.States as state
use Rattle.html_tokenizer.specs.Tokenizer.Transitions.{Transition, goes}
use Rattle.html_tokenizer.specs.Tokenizer.Code.Characters.{asterisk}

-- a byte of code, which leads on in it
abbrev pub stays : Code → Content → ℕ → Transition
stays kind content b = goes (state.InCode kind) content (CodeByte b ∷ [])

-- the rest of the code is opaque
abbrev pub gives_up : Content → ℕ → Transition
gives_up content b = stays code.Opaque content b

-- a byte of a comment up to `*/`
abbrev pub block_byte : Content → ℕ → Transition
block_byte content b = if b == asterisk then stays code.BlockStar content b else stays code.BlockComment content b

-- a byte after a `*` of such a comment
abbrev pub block_star_byte : Content → ℕ → Transition
block_star_byte content b = if b == slash then stays code.Plain content b else block_byte content b

-- a byte that no string holds as it stands
abbrev pub ends_line : ℕ → Bool
ends_line b = b == line_feed || b == carriage_return

-- a byte of a comment up to the end of its line
abbrev pub line_byte : Content → ℕ → Transition
line_byte content b =
    if ends_line b then stays code.Plain content b
    else (if b == 0xE2 then stays code.LineLead content b
    else stays code.LineComment content b)
