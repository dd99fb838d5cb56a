use Rattle.std.proofs.Common.{ap, length}
use Rattle.std.specs.String.{string_bytes}
use Rattle.std.proofs.lemmas.Str.{IsUtf8-string_bytes}
use Rattle.hesc_engine.proofs.Seam.{seam}
use Rattle.html_urls.specs.Components.{component}
use Rattle.html_urls.proofs.forms.append_component.Goals as goal

pub part_from-requires : goal.part_from-requires
part_from-requires g c =
    seam (string_bytes c.args.output.now) (string_bytes c.append_text.new.output) (component c.args.text.now) (length c.as_str-start.result.now)
    (IsUtf8-string_bytes c.args.output.now) (IsUtf8-string_bytes c.append_text.new.output) c.in_ok-append_text.ensures.appended (ap length c.as_str-start.ensures.value)
