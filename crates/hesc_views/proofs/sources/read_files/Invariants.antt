use Rattle.std.proofs.Common.{map, take, string_bytes}
use Rattle.hesc_views.specs.Sources.{AreTextsOf}
use Rattle.hesc_views.proofs.sources.read_files.Given as goal

-- the texts so far
abbrev pub invariant-loop-path : goal.invariant-loop-path
invariant-loop-path g l =
    AreTextsOf (λ path. g.S.Sources.bytes l.sources path) (map (λ path. path.now) (take l.path-index l.paths)) (map string_bytes l.texts.items)
