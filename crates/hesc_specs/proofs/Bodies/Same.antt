-- Two texts are the same body exactly if their encodings are equal: the encoding escapes the pieces that begin an opening.
use Rattle.std.proofs.Common.{ℕ, ◌≡◌, ◌↔◌, ◌⊎◌, Bool, true, false, List, [], ◌∷◌, ◌++◌, refl, sym, ap, ap₂, ◌∙◌, ne_eqb, inl, inr, if◌then◌else◌, arith}
use Rattle.std.proofs.lemmas.Bool.Decides.{nat_tests}
use Rattle.std.proofs.lemmas.Bool.{cases_Bool, cases_eq}
use Rattle.std.specs.List.{flat_map}
use Rattle.hesc_specs.specs.Text.Ascii.{less_than}
use Rattle.hesc_specs.specs.Bodies.Encoding.{body_encoding, body_decoding}
use Rattle.hesc_specs.specs.Bodies.Openings.{completes_opening, is_opening}
use Rattle.hesc_specs.specs.Bodies.SameBody.{first_piece, later_pieces, pieces, follower, escaped_piece, SamePieces, IsSameBody}
use Rattle.hesc_specs.specs.declared.elements.Element.{Element}
use Rattle.hesc_specs.proofs.Bodies.Canonical.{encode_twice, encode_decoding, decode_encoding}

-- the pieces, each escaped that begins an opening
abbrev pub escaped_pieces : Element → List (List ℕ) → List (List ℕ)
escaped_pieces element [] = []
escaped_pieces element (piece ∷ rest) =
    (if is_opening element (piece ++ follower rest) then escaped_piece piece else piece) ∷ escaped_pieces element rest

-- the pieces, joined, are the text
joined-pieces : (text : List ℕ) → flat_map (λ piece. piece) (pieces text) ≡ text
joined-pieces [] = refl
joined-pieces (b ∷ text) =
    elim (cases_eq b less_than) [
      | inl is ↦ rw is (ap (λ rest. less_than ∷ rest) (joined-pieces text))
      | inr other ↦ rw (ne_eqb b less_than other) (ap (λ rest. b ∷ rest) (joined-pieces text))
    ]

completes_opening-piece : (element : Element) (text : List ℕ) → completes_opening element (first_piece text ++ follower (later_pieces text)) ≡ completes_opening element text
completes_opening-piece element text = grind (arith, nat_tests)

first_piece-encoding : (element : Element) (text : List ℕ) → first_piece (body_encoding element text) ≡ first_piece text
first_piece-encoding element [] = refl
first_piece-encoding element (b ∷ text) =
    elim (cases_eq b less_than) [
      | inl is ↦ rw is refl
      | inr other ↦ rw (ne_eqb b less_than other) (ap (λ rest. b ∷ rest) (first_piece-encoding element text))
    ]

later_pieces-encoding : (element : Element) (text : List ℕ) → later_pieces (body_encoding element text) ≡ escaped_pieces element (later_pieces text)
later_pieces-encoding element [] = refl
later_pieces-encoding element (b ∷ text) =
    elim (cases_eq b less_than) [
      | inl is ↦
          rw (is, completes_opening-piece element text)
          (elim (cases_Bool (completes_opening element text)) [
            | inl opens ↦ rw opens (rw (first_piece-encoding element text, later_pieces-encoding element text) refl)
            | inr plain ↦ rw plain (rw (first_piece-encoding element text, later_pieces-encoding element text) refl)
          ])
      | inr other ↦ rw (ne_eqb b less_than other) (later_pieces-encoding element text)
    ]

-- the first piece begins no opening
first_piece-plain : (element : Element) (text : List ℕ) → is_opening element (first_piece text ++ follower (later_pieces text)) ≡ false
first_piece-plain element [] = refl
first_piece-plain element (b ∷ text) =
    elim (cases_eq b less_than) [
      | inl is ↦ rw is refl
      | inr other ↦ rw (ne_eqb b less_than other) (rw (ne_eqb b less_than other) refl)
    ]

-- the pieces of the encoding are the escaped pieces
pieces-encoding : (element : Element) (text : List ℕ) → pieces (body_encoding element text) ≡ escaped_pieces element (pieces text)
pieces-encoding element text = grind (arith, nat_tests, first_piece-plain, ap₂, first_piece-encoding, later_pieces-encoding)

-- pieces that are the same have followers alike
follower-same : (element : Element) (rest others : List (List ℕ)) → SamePieces element rest others → follower rest ≡ follower others
follower-same element rest others same = grind (arith, nat_tests)

-- an escaped piece begins no opening
escaped_piece-plain : (element : Element) (piece : List ℕ) (rest : List (List ℕ)) → is_opening element (escaped_piece piece ++ follower rest) ≡ false
escaped_piece-plain element piece rest = grind (arith, nat_tests)

-- pieces that are the same are escaped alike
same-escaped : (element : Element) (parts others : List (List ℕ)) → SamePieces element parts others → escaped_pieces element parts ≡ escaped_pieces element others
same-escaped element [] [] same = refl
same-escaped element [] (other ∷ others) same = absurd same
same-escaped element (piece ∷ rest) [] same = absurd same
same-escaped element (piece ∷ rest) (other ∷ others) same =
    let later : escaped_pieces element rest ≡ escaped_pieces element others = same-escaped element rest others same.1 in
    let next : follower rest ≡ follower others = follower-same element rest others same.1 in
    elim same.0 [
      | inl is ↦ rw (is, next, later) refl
      | inr escapes ↦
          elim escapes [
            | inl left ↦ rw (left.0, left.1, escaped_piece-plain element piece others, later) refl
            | inr right ↦ rw (right.0, right.1, escaped_piece-plain element other rest, later) refl
          ]
    ]

-- of two pieces that are alike where each may be escaped, they are equal or one is the other escaped
escaped-pair : (a b : Bool) (piece other : List ℕ) → (if a then escaped_piece piece else piece) ≡ (if b then escaped_piece other else other)
    → (piece ≡ other) ⊎ (((a ≡ true) × (other ≡ escaped_piece piece)) ⊎ ((b ≡ true) × (piece ≡ escaped_piece other)))
escaped-pair a b piece other same = grind (arith, nat_tests)

-- and pieces that are escaped alike are the same
escaped-same : (element : Element) (parts others : List (List ℕ)) → escaped_pieces element parts ≡ escaped_pieces element others → SamePieces element parts others
escaped-same element [] [] same = tt
escaped-same element [] (other ∷ others) same = cc
escaped-same element (piece ∷ rest) [] same = cc
escaped-same element (piece ∷ rest) (other ∷ others) same =
    let first : (if is_opening element (piece ++ follower rest) then escaped_piece piece else piece)
    ≡ (if is_opening element (other ++ follower others) then escaped_piece other else other) = cc in
    let later : escaped_pieces element rest ≡ escaped_pieces element others = cc in (
      escaped-pair (is_opening element (piece ++ follower rest)) (is_opening element (other ++ follower others)) piece other first,
      escaped-same element rest others later,
    )

-- two texts are the same body exactly if their encodings are equal
pub same_by_encoding : (element : Element) (text other : List ℕ) → IsSameBody element text other ↔ (body_encoding element text ≡ body_encoding element other)
same_by_encoding element text other = (
  λ same.
      let encoded : pieces (body_encoding element text) ≡ pieces (body_encoding element other) =
      pieces-encoding element text ∙ (same-escaped element (pieces text) (pieces other) same ∙ sym (pieces-encoding element other)) in
      sym (joined-pieces (body_encoding element text))
      ∙ (ap (λ all. flat_map (λ piece. piece) all) encoded ∙ joined-pieces (body_encoding element other)),
  λ equal.
      escaped-same element (pieces text) (pieces other)
      (sym (pieces-encoding element text) ∙ (ap (λ all. pieces all) equal ∙ pieces-encoding element other)),
)

-- and exactly if their decodings are equal
pub same_by_decoding : (element : Element) (text other : List ℕ) → IsSameBody element text other ↔ (body_decoding element text ≡ body_decoding element other)
same_by_decoding element text other =
    let by_encoding = same_by_encoding element text other in (
      λ same. sym (decode_encoding element text) ∙ (ap (λ all. body_decoding element all) (by_encoding.0 same) ∙ decode_encoding element other),
      λ equal. by_encoding.1 (sym (encode_decoding element text) ∙ (ap (λ all. body_encoding element all) equal ∙ encode_decoding element other)),
    )

-- the encoding is the same body as its text
pub encoding-same : (element : Element) (text : List ℕ) → IsSameBody element (body_encoding element text) text
encoding-same element text = (same_by_encoding element (body_encoding element text) text).1 (encode_twice element text)

-- and so is the decoding
pub decoding-same : (element : Element) (text : List ℕ) → IsSameBody element (body_decoding element text) text
decoding-same element text = (same_by_encoding element (body_decoding element text) text).1 (encode_decoding element text)
