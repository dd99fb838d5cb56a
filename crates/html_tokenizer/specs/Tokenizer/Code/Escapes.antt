-- What `<!--` begins in a script. It takes no slot, and a start tag of a script in it hides an end tag.
use Rattle.std.specs.Prelude.{ℕ, Bool, true, false, ◌==◌, if◌then◌else◌}
use Rattle.hesc_specs.specs.Text.Ascii.{greater_than}
use Rattle.html_tokenizer.specs.declared.states.Code.{Code}
use Rattle.html_tokenizer.specs.declared.states.Code.TheVariants as code
use Rattle.html_tokenizer.specs.declared.elements.Content.{Content}
use Rattle.html_tokenizer.specs.Tokenizer.Comments.{dash}
use Rattle.html_tokenizer.specs.Tokenizer.Transitions.{Transition}
use Rattle.html_tokenizer.specs.Tokenizer.Code.Comments.{stays, gives_up}

-- 13.2.5.18 Script data escape start state, 13.2.5.19 Script data escape start dash state
abbrev pub escape_start_byte : Code → Content → ℕ → Transition
escape_start_byte after content b = if b == dash then stays after content b else gives_up content b

-- 13.2.5.20 Script data escaped state, 13.2.5.21 Script data escaped dash state, 13.2.5.27 Script data double escaped
-- state, 13.2.5.28 Script data double escaped dash state
abbrev pub escaped_byte : Code → Code → Content → ℕ → Transition
escaped_byte after within content b = if b == dash then stays after content b else stays within content b

-- 13.2.5.22 Script data escaped dash dash state, 13.2.5.29 Script data double escaped dash dash state
abbrev pub escaped_end_byte : Code → Code → Content → ℕ → Transition
escaped_end_byte after within content b = if b == greater_than then gives_up content b else escaped_byte after within content b

-- the state that the word `script` leads to: a start tag within a comment hides an end tag
abbrev pub other_escape : Code → Code
other_escape code.Escaped = code.DoubleEscaped
other_escape other = code.Escaped

-- the rest takes no slot
abbrev pub is_opaque : Code → Bool
is_opaque code.Opaque = true
is_opaque code.JsonRest = true
is_opaque code.EscapeStart = true
is_opaque code.EscapeStartDash = true
is_opaque code.Escaped = true
is_opaque code.EscapedDash = true
is_opaque code.EscapedDashDash = true
is_opaque code.DoubleEscaped = true
is_opaque code.DoubleEscapedDash = true
is_opaque code.DoubleEscapedDashDash = true
is_opaque other = false
