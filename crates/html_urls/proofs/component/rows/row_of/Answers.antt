use Rattle.html_urls.proofs.Encoded.Rows.{read_count, read_row}
use Rattle.html_urls.proofs.component.rows.row_of.Goals as goal

pub returns-clause-bytes : goal.returns-clause-bytes
returns-clause-bytes c = read_row c.args.b c.from-row.result c.from.result c.ranges.b.fits c.from-row.ensures c.from.ensures

pub returns-clause-count : goal.returns-clause-count
returns-clause-count c = read_count c.args.b c.from-row.result c.from.result c.ranges.b.fits c.from-row.ensures c.from.ensures
