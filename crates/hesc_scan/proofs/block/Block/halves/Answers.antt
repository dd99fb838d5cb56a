use Rattle.std.proofs.Common.{◌≡◌, ℕ, ◌+◌, ◌-◌, ◌≤◌, ◌++◌, List, ap, sym, ◌∙◌, drop, length, arith}
use Rattle.std.proofs.lemmas.List.{drop-drop, take-append-drop}
use Rattle.hesc_scan.proofs.block.Block.halves.Goals as goal

-- of the last bytes those after the first
following : (bytes ends : List ℕ) (half : ℕ) → half ≤ 16 → half ≤ length bytes → length bytes ≤ half + half → drop (32 - half) ends ≡ drop (length bytes - half) bytes
    → drop (32 - (length bytes - half)) ends ≡ drop half bytes
following bytes ends half small one both back =
    let overlap : ℕ = (half + half) - length bytes in
    let there : 32 - (length bytes - half) ≡ (32 - half) + overlap = omega arith in
    let here : (length bytes - half) + overlap ≡ half = omega arith in
    ap (λ n. drop n ends) there
    ∙ sym (drop-drop overlap (32 - half) ends)
    ∙ ap (drop overlap) back
    ∙ drop-drop overlap (length bytes - half) bytes
    ∙ ap (λ n. drop n bytes) here

pub returns : goal.returns
returns g c =
    let half = g.row.N in
    let bytes = c.args.bytes.now in
    (λ i. c.ends.ensures.front i ++ following bytes c.ends.result half c.requires.small c.requires.one (omega (arith, c.requires.both)) c.ends.ensures.back i)
    ∙ take-append-drop half bytes
