-- A page that goes to a writer by several writes.
use Rattle.std.specs.Prelude.{◌≢◌, ℕ, List, [], Option, Some, None}
use Rattle.std.specs.Io.KnownBytes.{Appends}
use Rattle.std.specs.declared.io.Write.{Ghosts}
use Rattle.hesc_specs.specs.Text.Beginning.{AppendsBeginning}
use Rattle.html_writer.specs.declared.page_writer.PageWriter.{PageWriter}

-- the writer when the page was begun, and all that the page is so far
abbrev pub page_start : {W : Type 0} → PageWriter W → W
page_start page = page.start.value

abbrev pub page_text : {W : Type 0} → PageWriter W → List ℕ
page_text page = page.text.text

-- all of it went out, or after a fault a beginning of it
abbrev pub WentOut : {E : Type 0} → Option E → Option (List ℕ) → Option (List ℕ) → List ℕ → Type 0
WentOut None start contents text = Appends start contents text
WentOut (Some fault) start contents text = (text ≢ []) × AppendsBeginning start contents text

abbrev pub HasWritten : {W : Type 0} → Ghosts W → PageWriter W → Option (List ℕ) → Type 0
HasWritten writes page contents = WentOut page.fault (writes.contents page.start.value) contents page.text.text
