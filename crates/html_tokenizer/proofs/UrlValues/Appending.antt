-- The URLs of bytes and more bytes.
use Rattle.std.proofs.Common.{ℕ, ◌≡◌, false, List, [], ◌∷◌, ◌++◌, if◌then◌else◌, refl, ap, ◌∙◌, sym, append_assoc}
use Rattle.html_tokenizer.specs.Tokenizer.States.{Tokenizer}
use Rattle.html_tokenizer.specs.Tokenizer.Tokenization.{consume, state_after}
use Rattle.html_tokenizer.specs.UrlValues.{ended_url, ends_url, is_url, open_url, url_after, urls_from}

pub open_url-append : (t : Tokenizer) (value first second : List ℕ) →
    open_url t value (first ++ second) ≡ open_url (state_after t first) (open_url t value first) second
open_url-append t value [] second = refl
open_url-append t value (b ∷ first) second = open_url-append (consume t b).next (url_after t value b) first second

pub urls_from-append : (t : Tokenizer) (value first second : List ℕ) →
    urls_from t value (first ++ second) ≡ urls_from t value first ++ urls_from (state_after t first) (open_url t value first) second
urls_from-append t value [] second = refl
urls_from-append t value (b ∷ first) second =
    let next : Tokenizer = (consume t b).next in
    let held : List ℕ = url_after t value b in
    let ended : List (List ℕ) = if ends_url t b then ended_url t value b ∷ [] else [] in
    ap (λ more. ended ++ more) (urls_from-append next held first second)
    ∙ sym (append_assoc ended (urls_from next held first) (urls_from (state_after next first) (open_url next held first) second))

-- where no URL is open, no value of one is looked at
pub open_url-anew : (t : Tokenizer) (value other : List ℕ) (b : ℕ) (bytes : List ℕ) → is_url t.attribute ≡ false →
    open_url t value (b ∷ bytes) ≡ open_url t other (b ∷ bytes)
open_url-anew t value other b bytes is = rw is refl

pub urls_from-anew : (t : Tokenizer) (value other bytes : List ℕ) → is_url t.attribute ≡ false →
    urls_from t value bytes ≡ urls_from t other bytes
urls_from-anew t value other [] is = refl
urls_from-anew t value other (b ∷ bytes) is = rw is refl
