use Rattle.std.proofs.Common.{◌≡◌, ◌+◌, drop}
use Rattle.std.specs.Option.{option_map}
use Rattle.html_view.specs.Cursors.{here_of}
use Rattle.html_view.specs.Reading.{asked_partial, or_else, partials_of}
use Rattle.html_view.proofs.source.reader.Reader.partial.Given as goal

abbrev pub invariant-loop-index : goal.invariant-loop-index
invariant-loop-index g l =
    asked_partial 1 (partials_of l.self.partials.now) l.text l.tag.name.now
    ≡ or_else (asked_partial (l.index + 1) (partials_of (drop l.index l.self.partials.now)) l.text l.tag.name.now) (option_map here_of l.found)
