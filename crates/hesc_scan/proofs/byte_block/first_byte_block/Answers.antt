use Rattle.std.proofs.Common.{◌≡◌, ◌≤◌, ◌<◌, ◌+◌, ℕ, Bool, false, List, slice_index, arith, inl, inr, sym}
use Rattle.std.proofs.lemmas.Bool.{cases_lt, eqb-false}
use Rattle.memchr.specs.Find.{is_byte}
use Rattle.hesc_scan.specs.Blocks.{IsFirstBlock}
use Rattle.hesc_scan.proofs.ChunkSearch.{below_256, chunk_stands, none_by_mask, slice_rest}
use Rattle.hesc_scan.proofs.byte_block.first_byte_block.Goals as goal

-- the first 32 bytes have none
passed_chunk : (test : ℕ → Bool) (bytes : List ℕ) (from place mask : ℕ) → ((k : ℕ) → from ≤ k → k < from + 32 → test (slice_index bytes k) ≡ false)
    → IsFirstBlock test bytes (from + 32) place mask → IsFirstBlock test bytes from place mask
passed_chunk test bytes from place mask none later = record {
  ordered = omega (arith, later.ordered);
  within = later.within;
  before = λ k from_k below. elim (cases_lt k (from + 32)) [
    | inl in_chunk ↦ none k from_k in_chunk
    | inr after_chunk ↦ later.before k after_chunk below
  ];
  is_mask = later.is_mask;
  none = later.none;
}

pub hits_of_one-mask-requires : goal.hits_of_one-mask-requires
hits_of_one-mask-requires c =
    let chunks = c.as_chunks.ensures in
    below_256 c.args.bytes.now _ c.args.from c.type_inv.bytes
    (chunk_stands c.args.bytes.now _ c.args.from c.as_chunks.result.0.now 0 c.requires (slice_rest c.args.bytes.now c.args.from c.requires) chunks.front chunks.front_len (omega (arith, eqb-false _ _ (sym c.if-is_empty.ensures))) c.args.from (omega arith))

pub returns-then-bytes-from-le64 : goal.returns-then-bytes-from-le64
returns-then-bytes-from-le64 c =
    let chunks = c.as_chunks.ensures in
    passed_chunk (is_byte c.args.byte) c.args.bytes.now c.args.from _ _
    (none_by_mask (is_byte c.args.byte) c.args.bytes.now _ c.args.from c.args.from c.hits_of_one-mask.result (omega arith) (λ j after earlier. absurd (omega arith))
    (chunk_stands c.args.bytes.now _ c.args.from c.as_chunks.result.0.now 0 c.requires (slice_rest c.args.bytes.now c.args.from c.requires) chunks.front chunks.front_len (omega (arith, eqb-false _ _ (sym c.if-is_empty.ensures))) c.args.from (omega arith))
    c.hits_of_one-mask.ensures c.if-mask-ne0.false)
    (c.block_or_end.ensures (is_byte c.args.byte) c.mask_of_last-mask.ensures)

pub returns : goal.returns
returns c =
    let chunks = c.as_chunks.ensures in
    passed_chunk (is_byte c.args.byte) c.args.bytes.now c.args.from _ _
    (none_by_mask (is_byte c.args.byte) c.args.bytes.now _ c.args.from c.args.from c.hits_of_one-mask.result (omega arith) (λ j after earlier. absurd (omega arith))
    (chunk_stands c.args.bytes.now _ c.args.from c.as_chunks.result.0.now 0 c.requires (slice_rest c.args.bytes.now c.args.from c.requires) chunks.front chunks.front_len (omega (arith, eqb-false _ _ (sym c.if-is_empty.ensures))) c.args.from (omega arith))
    c.hits_of_one-mask.ensures c.if-mask-ne0.false)
    c.later_byte_block.ensures
