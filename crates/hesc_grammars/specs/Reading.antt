-- How a place is read: item by item from the front, up to the first end. A reading is a value and
-- an end, and there is none where a step finds nothing or the bytes run out before the end.
use Rattle.std.specs.Prelude.{ℕ, zero, suc, ◌+◌, List, [], ◌∷◌, ◌++◌, Option, Some, None, encode_utf8}
use Rattle.hesc_grammars.specs.declared.step.Mode.{Mode}
use Rattle.hesc_grammars.specs.declared.step.Step.{Step}
use Rattle.hesc_grammars.specs.declared.step.Step.TheVariants.{Close, Byte, Character, Nothing}

-- the reading with more bytes before it, which are so many and have this value
abbrev pub after : List ℕ → ℕ → Option (List ℕ × ℕ) → Option (List ℕ × ℕ)
after value count None = None
after value count (Some rest) = Some (value ++ rest.0, count + rest.1)

-- the reading from what begins here, where go_on reads what follows an item's first byte
abbrev pub taken : Step → (ℕ → Mode → Option (List ℕ × ℕ)) → Option (List ℕ × ℕ)
taken Close go_on = Some ([], 0)
taken (Byte more value next) go_on = after (value ∷ []) 1 (go_on more next)
taken (Character more value next) go_on = after (encode_utf8 value) 1 (go_on more next)
taken Nothing go_on = None

-- the reading of bytes that begin with so many more of the item before, by a grammar's step in a mode
abbrev pub reading_after : (Mode → List ℕ → Step) → ℕ → Mode → List ℕ → Option (List ℕ × ℕ)
reading_after step more mode [] = None
reading_after step (suc more) mode (b ∷ bytes) = after [] 1 (reading_after step more mode bytes)
reading_after step zero mode (b ∷ bytes) =
    taken (step mode (b ∷ bytes)) (λ more next. reading_after step more next bytes)
