-- The steps of the walks that hand an output on: what these proofs by hand name of the logic.
pub use Rattle.std.proofs.raw_atomic.Walks.{proved}
pub use base.Logic.{id⊢}
pub use base.Fml.{Fml, ftrue, flft}
pub use mir.Syntax.{named}
pub use mir.MapTy.{inst_fn}
pub use types.Kit.{‵, raw, ◌⊛◌, some, later, ◌$◌, ◌∵◌, !, qed, done, move, drop, use1, split, fsplit, join, pick, await, suffices, group}
pub use types.Run.{enter, addr, stop, no_more, and_then, returns}
pub use types.ByLocal.{alloc_all, pass_all, free_all, look_at, get, through, sets, lands_as}
pub use contract.Lifetimes.{Lfts}
pub use contract.Running.{tables}
pub use denote.Builtin.{u8, SliceRefOf}
pub use denote.Exit.{yes, no}
pub use denote.Laws.{Is, shows}
pub use denote.Param.{param}
pub use denote.RattleType.{RattleType}
pub use denote.Ref.{MutRef, mut_vals, mut_Tells}
pub use denote.Signature.{plain, type_at, Slot, named_lft}
pub use denote.Slice.{ShrSlice, shr_slice_vals, shr_slice_Tells}
pub use denote.Steps.{nothing, peeks}
pub use denote.Such.{such_Tells}
pub use denote.Text.{Str, StrRefOf, Utf8}
pub use denote.Triple.Call.{calls_at}
pub use denote.Triple.Clauses.{Lasts, lasts, at_exit, closing}
pub use denote.Triple.Entry.{Args, Res}
pub use denote.Triple.Spec.{triple_of}
pub use denote.Triple.Table.{framed}
pub use denote.Triple.Walked.{Stays, gave_ref, stay_dropped, Goes-gave_ref, Goes-dropped, Goes-spent_ref, walk_of, ends_at}
pub use borrow.Table.Str.{str_laws}
pub use mir.Val.{Val}
