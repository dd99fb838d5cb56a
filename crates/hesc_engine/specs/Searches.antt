-- What a search keeps of its rule, and how far a sink has come.
use Rattle.std.specs.Prelude.{◌≡◌, ℕ, List, [], ◌++◌, IfNone, IfSome}
use Rattle.hesc_specs.specs.Text.Changes.{Change, applied}
use Rattle.hesc_sinks.specs.Hits.{ascii_rows}
use Rattle.hesc_sinks.specs.Took.{Seen, TookAll}
use Rattle.hesc_sinks.specs.declared.found.Found.{Found}
use Rattle.hesc_engine.specs.Next.{IsNext}
use Rattle.hesc_engine.specs.Rules.{BeginsAtSought, EndsWhereNoneBegins, ReplacesByRows}
use Rattle.hesc_engine.specs.Sought.{in_sought}
use Rattle.hesc_engine.specs.declared.rule.Rule.{Ghosts}
use Rattle.hesc_engine.specs.declared.sought.Seek.{Seek}

-- the bytes that the rule seeks and its table, with what holds of them
pub record IsSeekOf {R : Type 0} (rules : Ghosts R) (rule : R) (seek : Seek) : Type 0 where
  pub sought : rules.is_sought rule ≡ in_sought seek.sought
  pub begins : BeginsAtSought (rules.begins_at rule) (rules.is_sought rule)
  pub ends : EndsWhereNoneBegins (rules.begins_at rule) (rules.changes_from rule)
  pub none : IfNone seek.texts (rules.rows rule ≡ [])
  pub some : IfSome seek.texts (λ texts. rules.rows rule ≡ ascii_rows texts)
  pub replaces : IfSome seek.texts (λ texts. ReplacesByRows (ascii_rows texts) (rules.begins_at rule) (rules.is_sought rule) (rules.changes_from rule))

-- where a found change is the first from a place on, the source from there, with the changes made, begins with these bytes
abbrev pub BeginsWith : List ℕ → ℕ → Found → List ℕ → Type 0
BeginsWith source from found bytes =
    (changes_from : ℕ → List Change) → IsNext source from changes_from found → applied source from (changes_from from) ≡ bytes ++ applied source found.end (changes_from found.end)

-- some bytes of what was to come were taken, and the others are still to come
pub record TookFirst (coming later : List ℕ) (old new : Seen) : Type 0 where
  pub put : List ℕ
  pub took : TookAll old new put
  pub left : coming ≡ put ++ later
