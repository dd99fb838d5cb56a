use Rattle.std.proofs.Common.{◌≡◌, ◌++◌, length, map}
use Rattle.html_view.specs.Reading.{partials_of}
use Rattle.hesc_views.specs.Run.{partials_named}
use Rattle.hesc_views.proofs.steps.named.Given as goal

-- the partials so far, and those that are left, are all
abbrev pub invariant-partials : goal.invariant-partials
invariant-partials g l =
    partials_of l.partials.items ++ partials_named (map (λ path. path.now) l.paths_left) (map (λ text. text.now) l.texts_left)
    ≡ partials_named (map (λ path. path.now) l.paths) (map (λ text. text.now) l.texts)

abbrev pub decreases-partials : goal.decreases-partials
decreases-partials g l = length l.paths_left
