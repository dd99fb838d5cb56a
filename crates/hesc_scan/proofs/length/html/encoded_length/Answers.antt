use Rattle.std.proofs.Common.{arith, ap, length}
use Rattle.hesc_specs.specs.Html.{encoding}
use Rattle.hesc_specs.specs.declared.classes.Class.TheVariants.{UnquotedAttribute}
use Rattle.hesc_scan.proofs.Lengths.HtmlSums.{as_encoding, length-encoding}
use Rattle.hesc_scan.proofs.length.html.encoded_length.Goals as goal

pub returns-in-UnquotedAttribute-clause-count : goal.returns-in-UnquotedAttribute-clause-count
returns-in-UnquotedAttribute-clause-count c =
    rw c.in-UnquotedAttribute.is (as_encoding UnquotedAttribute c.args.bytes.now c.total_length.result c.total_length.ensures.count)

pub returns-in-UnquotedAttribute-clause-fits : goal.returns-in-UnquotedAttribute-clause-fits
returns-in-UnquotedAttribute-clause-fits c =
    λ fits. c.total_length.ensures.fits (omega (arith, rw c.in-UnquotedAttribute.is at fits, length-encoding UnquotedAttribute c.args.bytes.now))

pub returns-in_default : goal.returns-in_default
returns-in_default c =
    let total = c.total_length-in_default in
    let bytes = c.args.bytes.now in
    record {
      count = rw c.of.ensures at (as_encoding c.of.result.class bytes total.result total.ensures.count);
      fits = λ fits. total.ensures.fits (omega (arith, fits, length-encoding c.of.result.class bytes, ap (λ k. length (encoding k bytes)) c.of.ensures));
    }
