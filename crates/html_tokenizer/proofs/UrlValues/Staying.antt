-- Bytes at which a URL stays open.
use Rattle.std.proofs.Common.{ℕ, ◌≡◌, true, List, [], ◌∷◌, ◌++◌, map, refl, ◌∙◌, sym, append-nil, append_assoc}
use Rattle.html_tokenizer.specs.Tokenizer.Actions.{ValueByte}
use Rattle.html_tokenizer.specs.Tokenizer.States.{Tokenizer}
use Rattle.html_tokenizer.specs.Tokenizer.Tokenization.{consume}
use Rattle.html_tokenizer.specs.Tokenizer.Transitions.{moves}
use Rattle.html_tokenizer.specs.UrlValues.{is_url, open_url, urls_from}
use Rattle.html_tokenizer.proofs.Passing.{Passes, passes_none, passes_one, passes_texts}
use Rattle.html_tokenizer.proofs.UrlValues.Apart.OneByte.{value_bytes-map}

-- the bytes lead from one state to the other, add others to the URL that is open, and none ends in them
pub record StaysUrl (t : Tokenizer) (bytes added : List ℕ) (u : Tokenizer) : Type 0 where
  pub passes : Passes t bytes (map ValueByte added) u
  pub value : (before : List ℕ) → open_url t before bytes ≡ before ++ added
  pub none_ends : (before : List ℕ) → urls_from t before bytes ≡ []

pub stays_none : {t : Tokenizer} → StaysUrl t [] [] t
stays_none = record { passes = passes_none; value = λ before. sym (append-nil before); none_ends = λ before. refl }

-- one byte, and then others
pub stays_byte : {t u v : Tokenizer} {b : ℕ} {bytes added : List ℕ} (first : List ℕ) → is_url t.attribute ≡ true → is_url u.attribute ≡ true →
    consume t b ≡ moves u (map ValueByte first) → StaysUrl u bytes added v → StaysUrl t (b ∷ bytes) (first ++ added) v
stays_byte {added = added} first here there is later = record {
  passes = passes_texts ValueByte first added (passes_one (map ValueByte first) is) later.passes;
  value = λ before. rw (here, is, value_bytes-map first) (later.value (before ++ first) ∙ append_assoc before first added);
  none_ends = λ before. rw (here, is, there, value_bytes-map first) (later.none_ends (before ++ first));
}
