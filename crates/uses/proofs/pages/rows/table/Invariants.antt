use Rattle.std.proofs.Common.{◌≡◌, ◌++◌, codes, take}
use Rattle.std.specs.List.{flat_map}
use Rattle.std.specs.String.{string_bytes}
use Rattle.uses.specs.Pages.Tables.{row_text}
use Rattle.uses.proofs.pages.rows.table.Given as goal

abbrev pub invariant-loop-row : goal.invariant-loop-row
invariant-loop-row l = string_bytes l.page ≡ codes "<table>" ++ flat_map row_text (take l.row-index l.rows)
