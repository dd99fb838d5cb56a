-- A URL that ends in markup behind a slot in it.
use Rattle.std.proofs.Common.{ℕ, ◌≡◌, true, false, List, [], ◌∷◌, ◌++◌, map, refl, sym, ap, ◌∙◌, append-nil, append_assoc, arith}
use Rattle.std.proofs.lemmas.Bool.Decides.{nat_tests}
use Rattle.std.proofs.lemmas.Bool.{true≢false}
use Rattle.html_template.specs.declared.open_url.OpenUrl.TheVariants.{Outside}
use Rattle.html_template.specs.FilledUrls.{Fixed, Whole, url_texts}
use Rattle.html_template.specs.PageUrls.{first_texts}
use Rattle.html_template.specs.Templates.{Chunk, Markup, page}
use Rattle.html_tokenizer.specs.Tokenizer.States.{Tokenizer}
use Rattle.html_tokenizer.specs.Tokenizer.Tokenization.{consume, state_after}
use Rattle.html_tokenizer.specs.UrlValues.{is_url, open_url, urls_from}
use Rattle.html_tokenizer.proofs.Passing.{state_after-append}
use Rattle.html_tokenizer.proofs.UrlValues.Appending.{open_url-anew, open_url-append, urls_from-anew, urls_from-append}
use Rattle.html_tokenizer.proofs.UrlValues.Ends.{Ends, ends_whole}
use Rattle.html_tokenizer.proofs.UrlValues.Slots.Tame.{IsFresh, IsTame}
use Rattle.html_tokenizer.proofs.UrlValues.Staying.{StaysUrl}
use Rattle.html_urls.specs.Slots as part
use Rattle.html_template.proofs.PageUrls.Filled.{EndsBehind, EndsParts, HasLater, fixed_before}
use Rattle.html_template.proofs.PageUrls.Opening.{Goes, behind_bytes}

-- ---- where it has ended, its value is looked at no more

-- a URL that is open behind bytes, and was not before them, is the same whatever value stood there
same_open : (t : Tokenizer) (bytes first second : List ℕ) → is_url t.attribute ≡ false → is_url (state_after t bytes).attribute ≡ true →
    open_url t first bytes ≡ open_url t second bytes
same_open t [] first second none url = absurd (true≢false (sym url ∙ none))
same_open t (b ∷ bytes) first second none url = open_url-anew t first second b bytes none

forgotten : (t : Tokenizer) (b : ℕ) (bytes first second added rest : List ℕ) → Ends t b added →
    urls_from (state_after t (b ∷ bytes)) (open_url t first (b ∷ bytes)) rest ≡ urls_from (state_after t (b ∷ bytes)) (open_url t second (b ∷ bytes)) rest
forgotten t b bytes first second added rest ends = grind (arith, nat_tests, same_open, urls_from-anew)

-- ---- it goes on with a text, and ends at a byte

module _ (here there : Tokenizer) (tame : IsTame here) (fresh : IsFresh here []) (url : is_url there.attribute ≡ true) where
  value_behind : (raw text : List ℕ) (b : ℕ) (rest before : List ℕ) → StaysUrl here raw text there →
      open_url here before (raw ++ b ∷ rest) ≡ open_url there (before ++ text) (b ∷ rest)
  value_behind raw text b rest before stays = grind (arith, nat_tests, open_url-append)

  ended_urls : (raw text added : List ℕ) (b : ℕ) (rest value more : List ℕ) → StaysUrl here raw text there → Ends there b added →
      urls_from here value ((raw ++ b ∷ rest) ++ more)
      ≡ (value ++ (text ++ added)) ∷ (urls_from (consume there b).next [] rest ++ urls_from (state_after here (raw ++ b ∷ rest)) (open_url there text (b ∷ rest)) more)
  ended_urls raw text added b rest value more stays ends =
      let ended : List ℕ = value ++ text in
      let fixed : List (List ℕ) = urls_from (consume there b).next [] rest in
      let after : state_after here (raw ++ b ∷ rest) ≡ state_after there (b ∷ rest) =
      state_after-append here raw (b ∷ rest) ∙ ap (λ x. state_after x (b ∷ rest)) stays.passes.after in
      ap (urls_from here value) (append_assoc raw (b ∷ rest) more)
      ∙ behind_bytes here value raw (b ∷ rest ++ more) (stays.none_ends value) stays.passes.after (stays.value value)
      ∙ urls_from-append there ended (b ∷ rest) more
      ∙ ap (λ x. x ++ urls_from (state_after there (b ∷ rest)) (open_url there ended (b ∷ rest)) more) (ends_whole there ended [] added b rest url ends)
      ∙ ap (λ x. x ∷ (fixed ++ urls_from (state_after there (b ∷ rest)) (open_url there ended (b ∷ rest)) more)) (append_assoc value text added)
      ∙ ap (λ x. (value ++ (text ++ added)) ∷ (fixed ++ x)) (forgotten there b rest ended text added more ends)
      ∙ ap (λ x. (value ++ (text ++ added)) ∷ (fixed ++ urls_from x (open_url there text (b ∷ rest)) more)) (sym after)

  -- the URL that ends there, and those without slots behind it
  ends_there : (raw text added : List ℕ) (b : ℕ) (rest : List ℕ) → StaysUrl here raw text there → Ends there b added →
      urls_from here [] (raw ++ b ∷ rest) ≡ (text ++ added) ∷ urls_from (consume there b).next [] rest
  ends_there raw text added b rest stays ends =
      let fixed : List (List ℕ) = urls_from (consume there b).next [] rest in
      ap (urls_from here []) (sym (append-nil (raw ++ b ∷ rest)))
      ∙ ended_urls raw text added b rest [] [] stays ends
      ∙ ap (λ urls. (text ++ added) ∷ urls) (append-nil fixed)

  module _ (raw text added : List ℕ) (b : ℕ) (rest : List ℕ) (chunks : List Chunk) (stays : StaysUrl here raw text there) (ends : Ends there b added)
      (goes : Goes Outside (state_after here (raw ++ b ∷ rest)) (raw ++ b ∷ rest) chunks) where
    abbrev all : List ℕ
    all = raw ++ b ∷ rest

    abbrev left : List ℕ
    left = open_url there text (b ∷ rest)

    abbrev fixed : List (List ℕ)
    fixed = urls_from (consume there b).next [] rest

    left_behind : open_url here [] all ≡ left
    left_behind = value_behind raw text b rest [] stays

    found : HasLater (state_after here all) left chunks
    found = goes left (record { start = here; tame = tame; before = []; fresh = fresh; after = refl; is = sym left_behind })

    -- so what is proved of the rest is proved of all
    pub ends_in : EndsBehind here (text ++ added) (Markup all ∷ chunks)
    ends_in = record {
      later = map Fixed fixed ++ found.urls;
      told = λ kind. rw (ends_there raw text added b rest stays ends, left_behind) (ap (λ urls. Whole kind ∷ (map Fixed fixed ++ urls)) found.told);
      ends = λ value texts full utf8. record {
        others = fixed ++ urls_from (state_after here all) left (page chunks texts);
        same = ended_urls raw text added b rest value (page chunks texts) stays ends;
        filled = fixed_before fixed (urls_from (state_after here all) left (page chunks texts)) (first_texts chunks texts) found.urls (url_texts chunks texts) (found.filled texts full utf8);
      };
    }

    -- and of the parts of a URL before it
    pub parts_end : EndsParts here (text ++ added) (Markup all ∷ chunks)
    unfolding ends_in found
    parts_end = record {
      end = ends_in;
      told = λ url_by before.
          rw (ends_there raw text added b rest stays ends, left_behind)
          (ap (λ urls. url_by (before ++ part.Markup (text ++ added) ∷ []) ∷ (map Fixed fixed ++ urls)) found.told);
    }
