use Rattle.std.specs.Str.{IsUtf8}
use Rattle.std.proofs.lemmas.Str.{IsUtf8-string_bytes}
use Rattle.html_view.proofs.append.appended.Goals as goal

pub from_utf8_unchecked-requires : goal.from_utf8_unchecked-requires
from_utf8_unchecked-requires g c =
    let before : IsUtf8 c.into_bytes-bytes.result.items = rw c.into_bytes-bytes.ensures.value (IsUtf8-string_bytes c.args.string) in
    c.append-outcome.ensures.utf8 before
