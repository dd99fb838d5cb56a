-- The bytes that markup adds to a URL, as they are kept.
use Rattle.std.specs.Prelude.{ℕ, List}
use Rattle.html_template.specs.declared.open_url.markup.PlainText.{PlainText}
use Rattle.html_template.specs.declared.open_url.markup.PlainText.TheVariants.{Same, Read}

abbrev pub bytes_of : {A : Type 0} → PlainText A → List ℕ
bytes_of (Same bytes) = bytes.now
bytes_of (Read bytes) = bytes.items
