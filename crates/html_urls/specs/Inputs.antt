-- What the parser keeps of its input (URL Standard, 4.4 URL parsing: a C0 control or space at an end, and a tab or newline anywhere, is removed).
use Rattle.std.specs.Prelude.{◌≢◌, ℕ, ◌-◌, ◌<◌, List, length, slice_index}
use Rattle.url.specs.Ascii.{space}
use Rattle.url.specs.Input.{is_c0_control_or_space, trim_end, trim_c0_control_and_space, strip_tabs_and_new_lines}

-- the byte is not the mark
abbrev pub IsNot : ℕ → ℕ → Type 0
IsNot mark b = b ≢ mark

-- the parser removes no such byte
abbrev pub IsVisible : ℕ → Type 0
IsVisible b = space < b

-- the last byte is such a byte
abbrev pub EndsVisibly : List ℕ → Type 0
EndsVisibly front = IsVisible (slice_index front (length front - 1))

-- what is kept of a whole input
abbrev pub kept : List ℕ → List ℕ
kept input = strip_tabs_and_new_lines (trim_c0_control_and_space input)

-- what is kept of the rest of an input, where a kept byte stands before it
abbrev pub kept_rest : List ℕ → List ℕ
kept_rest rest = strip_tabs_and_new_lines (trim_end is_c0_control_or_space rest)
