use Rattle.std.proofs.Common.{◌-◌, ℕ, length, arith}
use Rattle.memchr.specs.Find.{is_byte}
use Rattle.hesc_scan.proofs.ChunkSearch.{first_by_part, none_by_part}
use Rattle.hesc_scan.proofs.find.first_byte_of_halves.Goals as goal

pub returns-then-mask-ne0 : goal.returns-then-mask-ne0
returns-then-mask-ne0 c =
    first_by_part (is_byte c.args.byte) c.args.bytes.now c.args.from c.args.from 16 c.hits_of_one_at-mask.result (omega arith) (omega (arith, c.requires.one)) (omega arith)
    (λ k after below. absurd (omega arith)) c.hits_of_one_at-mask.ensures (omega (arith, c.if-mask-ne0.true))

pub returns-then-mask-ne0-2 : goal.returns-then-mask-ne0-2
returns-then-mask-ne0-2 c =
    let bytes = c.args.bytes.now in
    let last : ℕ = length bytes - 16 in
    first_by_part (is_byte c.args.byte) bytes c.args.from last 16 c.hits_of_one_at-mask-2.result (omega arith) (omega arith) (omega (arith, c.requires.one))
    (λ k from_k below. none_by_part (is_byte c.args.byte) bytes c.args.from c.args.from 16 c.hits_of_one_at-mask.result (omega arith) (omega (arith, c.requires.one)) (omega arith)
    (λ j after earlier. absurd (omega arith)) c.hits_of_one_at-mask.ensures c.if-mask-ne0.false k from_k (omega (arith, below)) (omega (arith, below, c.requires.both)))
    c.hits_of_one_at-mask-2.ensures (omega (arith, c.if-mask-ne0-2.true))

pub returns : goal.returns
returns c =
    let bytes = c.args.bytes.now in
    let last : ℕ = length bytes - 16 in
    record {
      ordered = omega (arith, c.requires.one);
      in_range = omega arith;
      before = λ k from_k below. none_by_part (is_byte c.args.byte) bytes c.args.from last 16 c.hits_of_one_at-mask-2.result (omega arith) (omega arith) (omega (arith, c.requires.one))
          (λ j from_j earlier. none_by_part (is_byte c.args.byte) bytes c.args.from c.args.from 16 c.hits_of_one_at-mask.result (omega arith) (omega (arith, c.requires.one)) (omega arith)
          (λ i after_i before_i. absurd (omega arith)) c.hits_of_one_at-mask.ensures c.if-mask-ne0.false j from_j (omega (arith, earlier)) (omega (arith, earlier, c.requires.both)))
          c.hits_of_one_at-mask-2.ensures c.if-mask-ne0-2.false k from_k below (omega (arith, below));
      found = λ inside. absurd (omega arith);
    }
