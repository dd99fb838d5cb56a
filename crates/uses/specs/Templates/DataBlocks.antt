-- A data block of a page.
use Rattle.std.specs.Prelude.{ℕ, List, [], ◌∷◌, ◌++◌, codes}
use Rattle.html_template.specs.Words.{Chunk, Markup, Slot, written}
use Rattle.html_template.specs.declared.parts.SlotKind.TheVariants.{Json}
use Rattle.html_tokenizer.specs.declared.slot_place.SlotPlace.TheVariants.{Text}

-- its pieces: all of its content is one slot
abbrev pub block_pieces : List Chunk
block_pieces = Markup (codes "<script type=\"application/ld+json\">") ∷ Slot Text Json ∷ Markup (codes "</script>") ∷ []

-- its content
abbrev pub content : List ℕ → List ℕ
content json = written Text Json json

-- the block, byte by byte
abbrev pub block_text : List ℕ → List ℕ
block_text json = codes "<script type=\"application/ld+json\">" ++ (content json ++ codes "</script>")
