use Rattle.std.proofs.Common.{◌≡◌, arith, sym, length, map}
use Rattle.html_template.specs.FillFaults.{slot_count}
use Rattle.html_template.specs.Templates.{chunk_of}
use Rattle.html_template.proofs.FillFaults.{no_fault}
use Rattle.html_template.proofs.FillFaults.{fills}
use Rattle.html_template.proofs.fill.check.Goals as goal

pub returns-then-count-summary-clause-faults : goal.returns-then-count-summary-clause-faults
returns-then-count-summary-clause-faults g c =
    let same : slot_count (map chunk_of c.args.pieces.now) ≡ length (g.T.Texts.list c.args.texts.now) = omega arith in
    sym (no_fault (map chunk_of c.args.pieces.now) (g.T.Texts.list c.args.texts.now) c.args.summary.has_checked c.if-not-summary.true c.requires.checked same)

pub returns-then-count-summary-clause-full : goal.returns-then-count-summary-clause-full
returns-then-count-summary-clause-full g c =
    (fills (map chunk_of c.args.pieces.now) (g.T.Texts.list c.args.texts.now)).0 (sym (returns-then-count-summary-clause-faults g c))
