use Rattle.std.proofs.Common.{◌≡◌, ℕ, ◌-◌, ◌≤◌, ◌++◌, List, ap, sym, ◌∙◌, drop, length, take, arith, append-nil, length-take-le, length-drop, take_all}
use Rattle.std.proofs.lemmas.List.{drop_all, take_rest}
use Rattle.std.proofs.lemmas.Simd.{put_chunk_whole}
use Rattle.std.proofs.lemmas.Slice.{take-put_mid_below}
use Rattle.std.proofs.Math.Seq.{drop-append_seam}
use Rattle.std.specs.Simd.Lanes.{put_chunk}
use Rattle.hesc_scan.proofs.block.ends.Goals as goal

pub returns-clause-front : goal.returns-clause-front
returns-clause-front g c =
    take-put_mid_below (32 - g.row.N) _ c.beginning-lanes.result _ g.row.N (omega (arith, c.requires.small)) (omega arith)
    ∙ c.beginning-lanes.ensures

-- the last of 32 lanes, written over as a whole
last_lanes : (a : ℕ) (lanes new : List ℕ) → a ≤ 32 → length lanes ≡ 32 → length new ≡ 32 - a →
    drop a (take a lanes ++ (put_chunk 0 (take (32 - a) (drop a lanes)) new ++ drop (32 - a) (drop a lanes))) ≡ new
last_lanes a lanes new within long is_long =
    let back : List ℕ = take (32 - a) (drop a lanes) in
    let past : List ℕ = drop (32 - a) (drop a lanes) in
    ap (λ n. drop n (take a lanes ++ (put_chunk 0 back new ++ past))) (sym (length-take-le a lanes (omega (arith, within, long))))
    ∙ drop-append_seam (take a lanes) (put_chunk 0 back new ++ past)
    ∙ ap (λ (l : List ℕ). put_chunk 0 back new ++ l) (drop_all (32 - a) (drop a lanes) (omega (arith, long, length-drop a lanes)))
    ∙ append-nil (put_chunk 0 back new)
    ∙ put_chunk_whole back new (omega (arith, is_long, long, length-drop a lanes, length-take-le (32 - a) (drop a lanes) (omega (arith, long, length-drop a lanes))))

-- the last n bytes of a text
last_bytes : (n : ℕ) (bytes : List ℕ) → n ≤ length bytes →
    take n (take (length bytes - (length bytes - n)) (drop (length bytes - n) bytes)) ≡ drop (length bytes - n) bytes
last_bytes n bytes one =
    ap (take n) (take_rest bytes (length bytes - n))
    ∙ take_all n (drop (length bytes - n) bytes) (omega (arith, one, length-drop (length bytes - n) bytes))

pub returns-clause-back : goal.returns-clause-back
returns-clause-back g c =
    let bytes = c.args.bytes.now in
    let is_last = last_bytes g.row.N bytes c.requires.one in
    last_lanes (32 - g.row.N) _ _ (omega arith) (omega arith) (omega (arith, c.requires.small, c.requires.one, ap length is_last, length-drop (length bytes - g.row.N) bytes))
    ∙ is_last
