use Rattle.std.proofs.Common.{ap, length}
use Rattle.std.specs.String.{string_bytes}
use Rattle.std.proofs.lemmas.Str.{IsUtf8-string_bytes}
use Rattle.hesc_engine.proofs.Seam.{seam}
use Rattle.html_json.specs.Encoding.{json_encoding}
use Rattle.html_json.proofs.forms.append_json.Goals as goal

pub part_from-requires : goal.part_from-requires
part_from-requires g c =
    seam (string_bytes c.args.output.now) (string_bytes c.append_to_string.new.output) (json_encoding c.args.text.now) (length c.as_str-start.result.now)
    (IsUtf8-string_bytes c.args.output.now) (IsUtf8-string_bytes c.append_to_string.new.output) c.in_ok-append_to_string.ensures.appended (ap length c.as_str-start.ensures.value)
