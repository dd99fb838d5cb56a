use Rattle.std.proofs.Common.{ap, length, arith}
use Rattle.std.specs.String.{string_bytes}
use Rattle.std.proofs.lemmas.Str.{IsUtf8-string_bytes}
use Rattle.hesc_engine.proofs.Seam.{seam}
use Rattle.std.proofs.lemmas.Grind.{common_steps}
use Rattle.html_escape.proofs.body_encoder.session.BodyEncoder.append_rest.Goals as goal

pub range_from-requires : goal.range_from-requires
range_from-requires g c some =
    rw c.as_str.ensures.value
    (seam (string_bytes c.args.output.now) (string_bytes c.add_rest.new.output) _ (length c.as_str-start.result.now)
    (IsUtf8-string_bytes c.args.output.now) (IsUtf8-string_bytes c.add_rest.new.output) c.in_ok-add_rest.ensures.appended (ap length c.as_str-start.ensures.value))

pub returns : goal.returns
returns g c = grind (arith, common_steps)
