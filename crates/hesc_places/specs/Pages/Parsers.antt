-- What stands at the front of bytes, and the bytes after it, where it stands there.
use Rattle.std.specs.Prelude.{ℕ, Bool, true, List, ◌==◌, Option, Some, None, if◌then◌else◌, length, take, drop}
use Rattle.std.specs.List.{prefix_len}
use Rattle.hesc_specs.specs.Text.Words.{begins, begins_in_any_case}

infixl 10 ◌>>=◌
-- one part, and what is read after it
abbrev pub ◌>>=◌ : {A B : Type 0} → Option A → (A → Option B) → Option B
None >>= go_on = None
(Some found) >>= go_on = go_on found

-- the bytes after a word
abbrev pub past : List ℕ → List ℕ → Option (List ℕ)
past word bytes = if begins word bytes then Some (drop (length word) bytes) else None

-- the bytes after a word in lower case that stands there in any ASCII case
abbrev pub past_in_any_case : List ℕ → List ℕ → Option (List ℕ)
past_in_any_case word bytes =
    if begins_in_any_case word (λ following. true) bytes then Some (drop (length word) bytes) else None

-- the bytes after all that pass, none or more
abbrev pub past_while : (ℕ → Bool) → List ℕ → List ℕ
past_while passes bytes = drop (prefix_len passes bytes) bytes

-- all bytes that pass, one or more, and the bytes after them
abbrev pub some_while : (ℕ → Bool) → List ℕ → Option (List ℕ × List ℕ)
some_while passes bytes =
    if prefix_len passes bytes == 0 then None
    else Some (take (prefix_len passes bytes) bytes, past_while passes bytes)
