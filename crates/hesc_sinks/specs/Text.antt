-- The texts that small texts, replacements and segments hold.
use Rattle.std.specs.Prelude.{ℕ, List, ◌++◌, take}
use Rattle.hesc_sinks.specs.declared.small_text.SmallText.{SmallText}
use Rattle.hesc_sinks.specs.declared.found.Replacement.{Replacement}
use Rattle.hesc_sinks.specs.declared.found.Replacement.TheVariants.{Borrowed, Small}
use Rattle.hesc_sinks.specs.declared.segment.Segment.{Segment}

abbrev pub small_text_bytes : SmallText → List ℕ
small_text_bytes text = take text.len text.bytes

abbrev pub replacement_bytes : Replacement → List ℕ
replacement_bytes (Borrowed text) = text.now
replacement_bytes (Small text) = small_text_bytes text

-- the stretch, and the text after it
abbrev pub segment_bytes : Segment → List ℕ
segment_bytes segment = segment.kept.now ++ replacement_bytes segment.new
