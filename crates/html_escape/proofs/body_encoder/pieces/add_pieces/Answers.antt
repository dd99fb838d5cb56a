use Rattle.std.proofs.Common.{ap, length}
use Rattle.std.specs.String.{string_bytes}
use Rattle.std.proofs.lemmas.Str.{IsUtf8-string_bytes}
use Rattle.hesc_engine.proofs.Seam.{seam}
use Rattle.html_escape.proofs.body_encoder.pieces.add_pieces.Goals as goal

pub truncate-requires : goal.truncate-requires
truncate-requires g c within =
    let boundary =
    seam (string_bytes c.args.output.now) (string_bytes c.push_pieces-outcome.new.output) c.push_pieces-outcome.ensures.kept.0 (length c.as_str-start.result.now)
    (IsUtf8-string_bytes c.args.output.now) (IsUtf8-string_bytes c.push_pieces-outcome.new.output) c.push_pieces-outcome.ensures.kept.1 (ap length c.as_str-start.ensures.value) in
    (boundary.0, λ some inside. boundary.1 inside)
