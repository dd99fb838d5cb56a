use Rattle.std.proofs.Common.{inl, inr}
use Rattle.hesc_grammars.proofs.ReadStretches.{double_escaped, escaped, up_to_first}
use Rattle.hesc_grammars.proofs.stretches.stretch.Goals as goal

pub returns-in-ScriptBody-clause-stays : goal.returns-in-ScriptBody-clause-stays
returns-in-ScriptBody-clause-stays c = elim c.in-Escaped.is [
  | inl one ↦ rw (c.in-ScriptBody.is, one) (up_to_first escaped c.next_in_comment.ensures)
  | inr both ↦ rw (c.in-ScriptBody.is, both) (up_to_first double_escaped c.next_in_comment.ensures)
]
