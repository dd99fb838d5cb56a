-- The names of partials.
use Rattle.std.specs.Prelude.{ℕ, List, ◌==◌}
use Rattle.std.specs.List.{after_last, before_first}
use Rattle.hesc_specs.specs.Text.Ascii.{slash}
use Rattle.html_view.specs.Names.{dot}

-- what stands behind the last `/` of the path, up to its first `.` there
abbrev pub name_in : List ℕ → List ℕ
name_in path = before_first (λ b. b == dot) (after_last (λ b. b == slash) path)
