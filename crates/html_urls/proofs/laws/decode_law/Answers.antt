use Rattle.std.proofs.Common.{arith}
use Rattle.std.proofs.lemmas.List.Elements.{All-from_get_or}
use Rattle.percent_encoding.proofs.PercentLemmas.{IsByte}
use Rattle.html_urls.proofs.Components.{decode-component, decode-written}
use Rattle.html_urls.proofs.laws.decode_law.Goals as goal

pub returns : goal.returns
returns c =
    let small = All-from_get_or IsByte c.args.text.now 0 (λ i within. omega (arith, c.type_inv.text i)) in
    record { component = decode-component c.args.text.now small; any = λ place. decode-written place c.args.text.now small }
