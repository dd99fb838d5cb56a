use Rattle.std.specs.Str.{IsUtf8}
use Rattle.std.proofs.lemmas.Str.{IsUtf8-string_bytes}
use Rattle.hesc_engine.proofs.Seam.{text_appended}
use Rattle.hesc_engine.proofs.forms.parts.appended.Goals as goal

pub from_utf8_unchecked-requires : goal.from_utf8_unchecked-requires
from_utf8_unchecked-requires g c =
    let before : IsUtf8 c.into_bytes-bytes.result.items = rw c.into_bytes-bytes.ensures.value (IsUtf8-string_bytes c.args.string) in
    text_appended c.append_long-outcome.result _ _ _ c.append_long-outcome.ensures.appended c.append_long-outcome.ensures.utf8 before
