-- The encoding of JSON is JSON of the same value.
pub mod Contents
pub mod Words
pub mod Lexemes
use Rattle.std.proofs.Common.{◌≡◌, ℕ, ◌&&◌, Bool, true, false, List, [], ◌∷◌, ◌++◌, Some, option_and_then, refl, sym, ap, ◌∙◌}
use Rattle.std.specs.List.{list_all}
use Rattle.json.specs.Align.{is_good}
use Rattle.json.specs.Json.{Json, Items, Members, document, if_last, max_depth, value}
use Rattle.json.specs.Json as json
use Rattle.json.specs.Lex.{tokens, fresh, between, lex}
use Rattle.json.specs.Token.{Token}
use Rattle.json.specs.Tree.{items_tokens, json_tokens, members_tokens}
use Rattle.json.proofs.Unique.Spelling.{tokens-document}
use Rattle.html_json.specs.Encoding.{json_encoding}
use Rattle.html_json.proofs.SameValue.Lexemes.{lexemes_kept, tokens_same}

abbrev are_good : List Token → Bool
are_good ts = list_all is_good ts

good_more : (b : Bool) (ts us : List Token) → (are_good ts ≡ true → are_good (ts ++ us) ≡ true) → (b && are_good ts) ≡ true → (b && are_good (ts ++ us)) ≡ true
good_more true ts us rest first = rest first
good_more false ts us rest first = first

good_both : (ts us : List Token) → are_good us ≡ true → are_good ts ≡ true → are_good (ts ++ us) ≡ true
good_both [] us second first = second
good_both (t ∷ ts) us second first = good_more (is_good t) ts us (good_both ts us second) first

mutual
  json_good : (j : Json) → are_good (json_tokens j) ≡ true
  json_good json.null = refl
  json_good (json.boolean b) = refl
  json_good (json.number s) = refl
  json_good (json.string s) = refl
  json_good (json.array items) = items_good items
  json_good (json.object members) = members_good members

  items_good : (items : Items) → are_good (items_tokens items) ≡ true
  items_good json.no_items = refl
  items_good (json.item j items) = good_both (json_tokens j) (items_tokens items) (items_good items) (json_good j)

  members_good : (members : Members) → are_good (members_tokens members) ≡ true
  members_good json.no_members = refl
  members_good (json.member k j members) = good_both (json_tokens j) (members_tokens members) (members_good members) (json_good j)

pub same_value : (text : List ℕ) (j : Json) → document text ≡ Some j → document (json_encoding text) ≡ Some j
same_value text j is =
    let good : are_good (tokens text) ≡ true = ap are_good (tokens-document text j is) ∙ json_good j in
    let same : tokens (json_encoding text) ≡ tokens text = tokens_same fresh (lex between text) (lex between (json_encoding text)) (lexemes_kept between text) good in
    ap (λ (ts : List Token). option_and_then (λ p. if_last p.0 p.1) (value max_depth ts)) same ∙ is
