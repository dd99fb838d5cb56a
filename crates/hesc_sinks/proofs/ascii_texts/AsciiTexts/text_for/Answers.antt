use Rattle.std.proofs.Common.{arith}
use Rattle.hesc_sinks.proofs.AsciiRows.{row_is_good}
use Rattle.hesc_sinks.proofs.ascii_texts.AsciiTexts.text_for.Goals as goal

pub from_ascii-requires-clause-short : goal.from_ascii-requires-clause-short
from_ascii-requires-clause-short c =
    (row_is_good c.args.self.now.rows.now c.args.self.now.short c.args.byte (omega (arith, c.args.self.now.all, c.if-byte-ge128.false))).0

pub from_ascii-requires-clause-ascii : goal.from_ascii-requires-clause-ascii
from_ascii-requires-clause-ascii c =
    (row_is_good c.args.self.now.rows.now c.args.self.now.short c.args.byte (omega (arith, c.args.self.now.all, c.if-byte-ge128.false))).1
