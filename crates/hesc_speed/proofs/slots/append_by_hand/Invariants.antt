use Rattle.std.proofs.Common.{◌≡◌, ◌++◌, length}
use Rattle.std.specs.String.{string_bytes}
use Rattle.html_template.specs.Templates.{texts_of}
use Rattle.hesc_speed.specs.Slots.{rows_of}
use Rattle.hesc_speed.proofs.slots.append_by_hand.Given as goal

-- what was appended, and the rows of the rest, are the rows of all
abbrev pub invariant-rows : goal.invariant-rows
invariant-rows l =
    string_bytes l.page ++ rows_of (texts_of l.rest) ≡ string_bytes l.initial.page ++ rows_of (texts_of l.texts)

abbrev pub decreases-rows : goal.decreases-rows
decreases-rows l = length l.rest
