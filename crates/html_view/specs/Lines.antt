-- Lines. A tag that is all of its line, but for blanks, leaves no line behind.
use Rattle.std.specs.Prelude.{ℕ, Bool, ◌&&◌, ◌||◌, List, [], ◌∷◌, Option, Some, None, ◌==◌, if◌then◌else◌}
use Rattle.std.specs.List.{list_all}
use Rattle.hesc_specs.specs.Text.Ascii.{carriage_return, line_feed, space, tab}

abbrev pub is_blank : ℕ → Bool
is_blank b = (space == b) || (tab == b)

-- bytes without the blanks that stand last
abbrev pub trim_end : List ℕ → List ℕ
trim_end [] = []
trim_end (b ∷ bytes) = if list_all is_blank (b ∷ bytes) then [] else b ∷ trim_end bytes

-- and without those that stand first
abbrev pub trim_start : List ℕ → List ℕ
trim_start [] = []
trim_start (b ∷ bytes) = if is_blank b then trim_start bytes else b ∷ bytes

-- whether a line begins behind the bytes, where this is known of their beginning
abbrev pub begins_behind : Bool → List ℕ → Bool
begins_behind begins [] = begins
begins_behind begins (b ∷ bytes) = begins_behind (b == line_feed) bytes

-- what stands before the last line, if that line has only blanks
abbrev pub before_line : Bool → List ℕ → Option (List ℕ)
before_line begins bytes = if begins_behind begins (trim_end bytes) then Some (trim_end bytes) else None

-- what stands behind the end of a line, if the line ends here. The text ends a line, too
abbrev pub behind_end : List ℕ → Option (List ℕ)
behind_end [] = Some []
behind_end (b ∷ []) = if b == line_feed then Some [] else None
behind_end (b ∷ c ∷ bytes) =
    if b == line_feed then Some (c ∷ bytes) else if (b == carriage_return) && (c == line_feed) then Some bytes else None

-- what stands behind the first line, if that line has only blanks
abbrev pub behind_line : List ℕ → Option (List ℕ)
behind_line bytes = behind_end (trim_start bytes)
