use Rattle.std.proofs.Common.{ℕ, ◌≡◌, ◌+◌, ◌==◌, ◌&&◌, true, false, List, [], ◌∷◌, Option, Some, None, length, take, drop, nat_eq, Bor, refl, ap, sym, ◌∙◌}
use Rattle.std.specs.Cmp.Lexicographic.{pointwise}
use Rattle.std.specs.Option.{MatchOption, option_map}
use Rattle.hesc_specs.specs.Text.Words.{begins}
use Rattle.html_tokenizer.specs.Tokenizer.Attributes.Encodings.{past}
use Rattle.html_tokenizer.proofs.attributes.encodings.past.Goals as goal

begins_at_each : (word bytes : List ℕ) → pointwise nat_eq (take (length word) bytes) word ≡ begins word bytes
begins_at_each [] bytes = refl
begins_at_each (w ∷ word) [] = refl
begins_at_each (w ∷ word) (b ∷ bytes) = ap (λ x. (b == w) && x) (begins_at_each word bytes)

stripped : (word bytes : List ℕ) (result : Option (Bor (List ℕ))) →
    MatchOption result (pointwise nat_eq (take (length word) bytes) word ≡ false)
    (λ x. (pointwise nat_eq (take (length word) bytes) word ≡ true) × (x.now ≡ drop (length word) bytes) × (length x.now + length word ≡ length bytes)) →
    option_map (λ rest. rest.now) result ≡ past word bytes
stripped word bytes None missing = rw (sym (begins_at_each word bytes) ∙ missing) refl
stripped word bytes (Some x) found = rw (sym (begins_at_each word bytes) ∙ found.0) (ap Some found.1)

pub returns : goal.returns
returns c = stripped c.args.word.now c.args.bytes.now c.strip_prefix.result c.strip_prefix.ensures.cases
