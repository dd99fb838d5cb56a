-- The texts of files, one after the other.
use Rattle.std.proofs.Common.{◌≡◌, ◌<◌, ◌++◌, ℕ, suc, List, [], ◌∷◌, Bor, String, get_or, length, map, take, string_bytes, ap, ◌∙◌}
use Rattle.std.proofs.lemmas.List.{map-append}
use Rattle.std.proofs.Math.Seq.{take-suc}
use Rattle.hesc_views.specs.Sources.{AreTextsOf, Files, IsTextOf}

texts_more : (files : Files) (paths texts : List (List ℕ)) (path text : List ℕ) → AreTextsOf files paths texts → IsTextOf (files path) text →
    AreTextsOf files (paths ++ path ∷ []) (texts ++ text ∷ [])
texts_more files [] [] path text known is = (is, tt)
texts_more files [] (one ∷ texts) path text known is = absurd known
texts_more files (one ∷ paths) [] path text known is = absurd known
texts_more files (one ∷ paths) (first ∷ texts) path text known is = (known.0, texts_more files paths texts path text known.1 is)

-- one file more was read
pub read_more : {A : Type 0} (files : Files) (all : List (Bor (List ℕ))) (i j : ℕ) (d : Bor (List ℕ)) (old new : List (String A)) (text : String A) →
    j ≡ suc i → i < length all → new ≡ old ++ text ∷ [] → AreTextsOf files (map (λ path. path.now) (take i all)) (map string_bytes old) →
    IsTextOf (files (get_or all i d).now) (string_bytes text) →
    AreTextsOf files (map (λ path. path.now) (take j all)) (map string_bytes new)
read_more {A} files all i j d old new text next within grown known is =
    let paths : map (λ (path : Bor (List ℕ)). path.now) (take (suc i) all) ≡ map (λ (path : Bor (List ℕ)). path.now) (take i all) ++ (get_or all i d).now ∷ [] =
    ap (map (λ (path : Bor (List ℕ)). path.now)) (take-suc all i d within) ∙ map-append (λ path. path.now) (take i all) (get_or all i d ∷ []) in
    let texts : map (string_bytes {Z = A}) new ≡ map string_bytes old ++ string_bytes text ∷ [] =
    ap (map string_bytes) grown ∙ map-append string_bytes old (text ∷ []) in
    rw (next, paths, texts) (texts_more files _ _ _ _ known is)
