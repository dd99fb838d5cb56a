use Rattle.std.proofs.Common.{◌≡◌, ◌++◌, ℕ, List, length, map}
use denote.Text.{Utf8}
use denote.Shadow.{shadow}
use Rattle.html_template.specs.Templates.{given, texts_of}
use Rattle.html_template_source.specs.Sources.{LeadOn}
use Rattle.html_template_source.proofs.source.Source.cut.Given as goal

-- what was cut leads on, and with the rest it is all
abbrev pub invariant-slots : goal.invariant-slots
invariant-slots g l =
    shadow (Utf8 l.rest)
    × ((front : List ℕ) × (LeadOn (map given l.parts.items) (texts_of l.names.items) front × (front ++ l.rest ≡ l.source)))

abbrev pub decreases-slots : goal.decreases-slots
decreases-slots g l = length l.rest
