-- A text with each NUL replaced by U+FFFD.
use Rattle.std.specs.Prelude.{ℕ, List, [], ◌∷◌, ◌==◌, if◌then◌else◌, encode_utf8}
use Rattle.std.specs.List.{flat_map}

-- the code of U+FFFD, the replacement character
abbrev pub replacement_character : ℕ
replacement_character = 0xFFFD

abbrev pub nul_image : ℕ → List ℕ
nul_image b = if b == 0 then encode_utf8 replacement_character else b ∷ []

abbrev pub nul : List ℕ → List ℕ
nul text = flat_map nul_image text
