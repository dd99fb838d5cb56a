-- A function of a table, a text and an output at any allocator that only calls the function of the output, the table and the text, and answers what that answers: as in `HandsOn`, with one parameter more.
use Rattle.std.proofs.Common.{ℕ, [], ◌∷◌, refl}
use Rattle.std.proofs.raw_atomic.Walks.{proved}
use seplogic.Ra.Ura.{Ura}
use base.Logic.{ent, id⊢}
use base.Fml.{Fml, ftrue, flft}
use lib.Dec.{T}
use mir.Syntax.{Fn, Callee, Ty, local, value_local, seq, assign, call, return, place, copy, addr_of, deref, ty_ref, named, erased, mut}
use mir.Val.{Val, has_ty, WT}
use prog.Model.{Model}
use prog.Wp.{Closed}
use types.Logic.{Logic, sem}
use contract.Lifetimes.{Lfts, Within}
use contract.Running.{Running, tables}
use types.Kit.{‵, raw, ◌⊛◌, some, later, ◌$◌, ◌∵◌, !, qed, done, move, drop, use1, split, join, pick as pick_i, await, suffices, group}
use types.Run.{enter, addr, stop, no_more, and_then, returns}
use types.ByLocal.{alloc_all, pass_all, free_all, look_at, get, through, sets, lands_as}
use denote.Exit.{yes, no}
use denote.RattleType.{RattleType}
use denote.Laws.{Is, shows}
use denote.Memory.{lone, pointee}
use denote.Builtin.{u8}
use denote.Ref.{MutRef, mut_vals, mut_Tells}
use denote.Slice.{ShrSlice, shr_slice_vals, shr_slice_Tells}
use denote.Such.{such_Tells}
use denote.Text.{Str, StrRefOf, Utf8}
use denote.Signature.{Slot, plain, type_at, mut_ref_to}
use denote.Steps.{nothing, peeks}
use denote.Triple.Entry.{Args, Res}
use denote.Triple.Call.{calls_at}
use denote.Triple.Clauses.{Ended, Clauses, Lasts, lasts, at_exit, closing}
use denote.Triple.Spec.{Meets, triple_of}
use denote.Triple.Statement.{Triple}
use denote.Triple.Table.{framed}
use denote.Triple.Walked.{Stays, stay_dropped, Goes-dropped, Goes-spent_ref, walk_of, ends_at}
use borrow.Table.Str.{str_laws}
use Rattle.std.proofs.result.Result.TheLaws.{the_row_laws as result_laws}
use Rattle.std.proofs.alloc.AllocError.TheLaws.{the_row_laws as error_laws}
use Rattle.std.specs.contracts.alloc.AllocError as error
use mir.Syntax.{Args as TypeArgs, Dict}
use mir.MapTy.{inst_fn}
use denote.Param.{param}
use denote.Ref.{shr_vals, shr_Tells}
use denote.Signature.{shr_ref_to, named_lft}
use Rattle.hesc_table.specs.contracts.EntityTable as table
use Rattle.std.specs.declared.alloc.Allocator.{Ghosts}
use Rattle.hesc_engine.specs.Forms.{string_row, vec_row}
use Rattle.hesc_engine.proofs.HandsOn.{over, text_answer, bytes_answer, bytes_laws}

abbrev pub turned_lfts : Lfts 5 → Lfts 5
turned_lfts κs = (κs.1.1.1.0, (κs.0, (κs.1.0, (κs.1.1.0, (κs.1.1.1.1.0, tt)))))

abbrev none : Lfts 5
none = ([], ([], ([], ([], ([], tt)))))

abbrev pub answered : Slot 5 → Ty
answered X = lone (type_at X none).mir

abbrev table_ref : (n m : ℕ) → Within 5 n → Within 5 m → Slot 5
table_ref n m ok ok' = shr_ref_to (n ∷ []) ok (plain (λ κs. table.the_row (named_lft 5 m ok' κs)))

-- R is the output's type, and X and Y the answer's at the two signatures
pub record Form : Type 3 where
  pub R : RattleType
  pub X : Slot 5
  pub Y : Slot 5
  pub same : (κs : Lfts 5) → (type_at Y (turned_lfts κs)).Denot → (type_at X κs).Denot
  pub fits : {M : Type 1} {𝓤 : Ura M} (𝓛 : Logic 𝓤) (κs : Lfts 5) (r : (type_at Y (turned_lfts κs)).Denot) (v : Val) → Is (type_at Y (turned_lfts κs)) r (v ∷ []) → T (has_ty (answered X) v) × WT v
  pub owned : {M : Type 1} {𝓤 : Ura M} (𝓛 : Logic 𝓤) (κs : Lfts 5) (r : (type_at Y (turned_lfts κs)).Denot) (v : Val)
      → ent 𝓤 (sem 𝓛 ((type_at Y (turned_lfts κs)).own_val r (v ∷ []))) (sem 𝓛 ((type_at X κs).own_val (same κs r) (v ∷ [])))

module _ (form : Form) where
  open form use {R, X, Y, same, fits, owned}

  abbrev pub given : Ended
  given = record {
    signature = record { lifetimes = 5; outlives = record { long = 1; long_ok = tt; short = named 0; short_ok = tt } ∷ record { long = 4; long_ok = tt; short = named 3; short_ok = tt } ∷ []; params = table_ref 0 1 tt tt ∷ StrRefOf (2 ∷ []) tt ∷ mut_ref_to (3 ∷ []) tt (plain (λ κs. R)) ∷ []; result = X };
    kept = (yes, (yes, (no, tt)));
  }

  abbrev pub turned : Ended
  turned = record {
    signature = record { lifetimes = 5; outlives = record { long = 2; long_ok = tt; short = named 1; short_ok = tt } ∷ record { long = 4; long_ok = tt; short = named 0; short_ok = tt } ∷ []; params = mut_ref_to (0 ∷ []) tt (plain (λ κs. R)) ∷ table_ref 1 2 tt tt ∷ StrRefOf (3 ∷ []) tt ∷ []; result = Y };
    kept = (no, (yes, (yes, tt)));
  }

  abbrev pub turned_args : (κs : Lfts 5) → Args given.signature κs → Args turned.signature (turned_lfts κs)
  turned_args κs a = (a.1.1.0, (a.0, (a.1.0, tt)))

  abbrev stayed : Stays given.signature.params given.kept
  stayed = (stay_dropped _ yes, (stay_dropped _ yes, (stay_dropped _ no, tt)))

  -- the function that calls k
  abbrev pub handing : Fn → Callee → Fn
  handing h k = record {
    lifetimes = h.lifetimes;
    outlives = h.outlives;
    ty_params = h.ty_params;
    givens = h.givens;
    params = 3;
    locals = local (answered X) value_local ∷ local (lone (type_at (table_ref 0 1 tt tt) none).mir) value_local ∷ local (lone (type_at (StrRefOf {n = 5} (2 ∷ []) tt) none).mir) value_local ∷ local (ty_ref (named 3) mut (pointee R.written)) value_local
        ∷ local (ty_ref erased mut (pointee R.written)) value_local ∷ [];
    body = seq (assign (place 4 []) (addr_of (place 3 (deref (lone R.mir) ∷ [])))) (seq (call k (copy (place 4 []) ∷ copy (place 1 []) ∷ copy (place 2 []) ∷ []) (place 0 [])) return);
  }

  module _ {M : Type 1} (𝓤 : Ura M) (𝓛 : Logic 𝓤) (𝓜 : Model 𝓤 𝓛.H) (𝓡 : Running 𝓤 𝓛.H 𝓜) (c : Clauses 𝓤 given) (d : Clauses 𝓤 turned)
      (pick : (κs : Lfts 5) (a : Args given.signature κs) → (c κs a).ghost → (d (turned_lfts κs) (turned_args κs a)).ghost)
      (into : (κs : Lfts 5) (a : Args given.signature κs) (n : (c κs a).ghost) → ent 𝓤 ((c κs a).requires n) ((d (turned_lfts κs) (turned_args κs a)).requires (pick κs a n)))
      (out : (κs : Lfts 5) (a : Args given.signature κs) (n : (c κs a).ghost) (r : Res turned.signature (turned_lfts κs)) (ws : Lasts turned (turned_lfts κs) (turned_args κs a))
      → ent 𝓤 ((d (turned_lfts κs) (turned_args κs a)).ensures (pick κs a n) r (at_exit turned (turned_lfts κs) (turned_args κs a) ws)) ((c κs a).ensures n (same κs r) (at_exit given κs a (tt, (tt, (tt, tt))))))
      (A₀ : RattleType) (δ ε : Dict) (h : Fn) (f' g' : TypeArgs → Callee) (closed : Closed 𝓤 𝓛.H (tables 𝓤 𝓛.H 𝓜 𝓡 𝓡.env).C (tables 𝓤 𝓛.H 𝓜 𝓡 𝓡.env).Λ (f' (over A₀ δ ε)) (handing (inst_fn (over A₀ δ ε) h) (g' (over A₀ δ ε))))
      (met : Triple 𝓤 ((tables 𝓤 𝓛.H 𝓜 𝓡 𝓡.env).C (g' (over A₀ δ ε))) (triple_of 𝓛 turned.signature (closing 𝓛 turned d))) where
    pub hands_on : Meets 𝓛 given.signature ((tables 𝓤 𝓛.H 𝓜 𝓡 𝓡.env).C (f' (over A₀ δ ε))) (closing 𝓛 given c)
    hands_on =
        let W = walk_of 𝓛 given stayed c in
        proved 𝓛 given stayed c 𝓜 𝓡 (Goes-dropped 𝓛 5 (table_ref 0 1 tt tt) yes (λ κs x w. refl), (Goes-dropped 𝓛 5 (StrRefOf (2 ∷ []) tt) yes (λ κs x w. refl), (Goes-spent_ref 𝓛 5 (3 ∷ []) tt (plain (λ _. R)), tt))) (f' (over A₀ δ ε)) (handing (inst_fn (over A₀ δ ε) h) (g' (over A₀ δ ε))) closed
        (λ κs. (shr_vals, (shr_slice_vals, (mut_vals, tt))))
        (λ κs. (shr_Tells (named 0) κs.0 (table.the_row (named_lft 5 1 tt κs)), (such_Tells (ShrSlice (named 2) κs.1.1.0 u8) (λ x. Utf8 x.now) (λ x cs. (tt, tt)) shr_slice_vals (shr_slice_Tells (named 2) κs.1.1.0 u8), (mut_Tells (named 3) κs.1.1.1.0 R, tt)))) (λ κs qs bounds a n are.
        let bs = shr_vals a.0 in let ts = shr_slice_vals a.1.0 in let os = mut_vals a.1.1.0 in
        let B : Fml = (type_at (table_ref 0 1 tt tt) κs).own_val a.0 bs in
        let S : Fml = (type_at (StrRefOf {n = 5} (2 ∷ []) tt) κs).own_val a.1.0 ts in
        let O : Fml = (MutRef (named 3) κs.1.1.1.0 R).own_val a.1.1.0 os in
        let G = triple_of 𝓛 turned.signature (closing 𝓛 turned d) in
        let κs' : Lfts 5 = turned_lfts κs in let a' : Args turned.signature κs' = turned_args κs a in
        let y : W.Ghost = ((κs, qs, bounds, a, (bs, (ts, (os, tt)))), n) in
        let z : G.Ghost = ((κs', (qs.1.1.1.0, (qs.0, (qs.1.0, (qs.1.1.0, (qs.1.1.1.1.0, tt))))), bounds, a', (os, (bs, (ts, tt)))), pick κs a n) in
        let A : RattleType = type_at Y κs' in
        qed 𝓛 (((‵ (flft κs.0 qs.0) ⊛ (‵ (flft κs.1.0 qs.1.0) ⊛ (‵ (flft κs.1.1.0 qs.1.1.0) ⊛ (‵ (flft κs.1.1.1.0 qs.1.1.1.0) ⊛ (‵ (flft κs.1.1.1.1.0 qs.1.1.1.1.0) ⊛ ‵ ftrue))))) ⊛ (‵ B ⊛ (‵ S ⊛ (‵ O ⊛ ‵ ftrue)))) ∷ raw ((c κs a).requires n) ∷ []) ∵
        move ! (1 ∷ []) $ use1 𝓛 (raw ((d κs' a').requires (pick κs a n))) (into κs a n) $ move ! (1 ∷ []) $
        -- [entry; requires], entry = (t0 (t1 (t2 (t3 (t4 1))))) (B (S (O 1)))
        split ! $ split ! $ move ! (1 ∷ []) $ split ! $ move ! (1 ∷ []) $ split ! $ move ! (1 ∷ []) $ split ! $
        -- [t3; t4 1; t2; t1; t0; own; requires]
        move ! (2 ∷ 1 ∷ []) $ join ! $ move ! (2 ∷ 0 ∷ []) $ join ! $ move ! (2 ∷ 0 ∷ []) $ join ! $ move ! (1 ∷ 0 ∷ []) $ join ! $
        move ! (1 ∷ []) $ split ! $ move ! (1 ∷ []) $ split ! $ move ! (1 ∷ []) $ split ! $
        -- [O; 1; S; B; toks; requires]
        move ! (2 ∷ 1 ∷ []) $ join ! $ move ! (2 ∷ 0 ∷ []) $ join ! $ move ! (1 ∷ 0 ∷ []) $ join ! $ move ! (1 ∷ 0 ∷ []) $ join ! $ join ! $ use1 𝓛 (raw (G.pre z)) (id⊢ 𝓤 _) $
        enter ! _ _ _ _ _ $ alloc_all ! (λ l. pass_all ! refl ((tt, tt), ((tt, (tt, (record { fits = are.1.0.0.0.1.0 }, tt))), ((tt, tt), tt))) $
        sets ! (addr ! (through ! refl (stop !))) refl (tt, tt) $
        calls_at ! (framed 𝓤 𝓛.H 𝓜 (tables 𝓤 𝓛.H 𝓜 𝓡 𝓡.env)) G met z
        (and_then ! (get ! refl) (and_then ! (get ! refl) (and_then ! (get ! refl) (no_more !)))) (λ v.
        use1 𝓛 (later (some (λ (r : Res turned.signature κs'). ((‵ (flft κs.1.1.1.0 qs.1.1.1.0) ⊛ (‵ (flft κs.0 qs.0) ⊛ (‵ (flft κs.1.0 qs.1.0) ⊛ (‵ (flft κs.1.1.0 qs.1.1.0) ⊛ (‵ (flft κs.1.1.1.1.0 qs.1.1.1.1.0) ⊛ ‵ ftrue))))) ⊛ ‵ (A.own_val r (v ∷ []))) ⊛
        some (λ (ws : Lasts turned κs' a'). ‵ (lasts turned κs' a' ws) ⊛ raw ((d κs' a').ensures (pick κs a n) r (at_exit turned κs' a' ws)))))) (id⊢ 𝓤 _) $
        await ! tt $ pick_i ! (λ r. split ! $ split ! $ move ! (2 ∷ []) $ pick_i ! (λ ws. split ! $ drop ! $
        -- [the clauses; the tokens; the answer]
        use1 𝓛 (raw ((c κs a).ensures n (same κs r) (at_exit given κs a (tt, (tt, (tt, tt)))))) (out κs a n r ws) $
        move ! (2 ∷ []) $ peeks ! A (Is A) (shows 𝓛 A) r (v ∷ []) (λ is. lands_as ! refl refl (fits 𝓛 κs r v is) $
        use1 𝓛 (‵ ((type_at X κs).own_val (same κs r) (v ∷ []))) (owned 𝓛 κs r v) $
        returns ! (look_at ! 0 refl) $ free_all ! refl $
        -- [the answer; the clauses; the tokens]
        move ! (2 ∷ []) $ split ! $ move ! (1 ∷ []) $ split ! $ move ! (1 ∷ []) $ split ! $ move ! (1 ∷ []) $ split ! $
        -- [t2; X; t1; t0; t3; ..]
        move ! (4 ∷ 1 ∷ []) $ join ! $ move ! (1 ∷ 0 ∷ []) $ join ! $ move ! (1 ∷ 0 ∷ []) $ join ! $ move ! (1 ∷ 0 ∷ []) $ join ! $
        suffices ! _ (ends_at 𝓛 given stayed c y v (same κs r) (tt, (tt, (tt, tt))) (tt, (tt, (tt, tt)))) $
        nothing ! $ nothing ! $ join ! $ nothing ! $ join ! $ nothing ! $ join ! $ move ! (1 ∷ 0 ∷ []) $ group ! 3 $ done !))))))

abbrev pub string_form : (A : RattleType) → Ghosts A.Denot → Form
string_form A alloc = record {
  R = string_row (param 0 A) alloc;
  X = text_answer 3 tt;
  Y = text_answer 0 tt;
  same = λ κs r. r;
  owned = λ {M} {𝓤} 𝓛 κs r v. id⊢ 𝓤 _;
  fits = λ 𝓛 κs r v is. (((result_laws (Str (named 0) κs.1.1.1.0) error.the_row (str_laws (record { mir = named 0; lft = κs.1.1.1.0 })) error_laws).lawful 𝓛).typed r (v ∷ []) is).0;
}

abbrev pub vec_form : (A : RattleType) → Ghosts A.Denot → Form
vec_form A alloc = record {
  R = vec_row (param 0 A) alloc;
  X = bytes_answer 3 tt;
  Y = bytes_answer 0 tt;
  same = λ κs r. r;
  owned = λ {M} {𝓤} 𝓛 κs r v. id⊢ 𝓤 _;
  fits = λ 𝓛 κs r v is. (((result_laws (ShrSlice (named 0) κs.1.1.1.0 u8) error.the_row (bytes_laws (record { mir = named 0; lft = κs.1.1.1.0 })) error_laws).lawful 𝓛).typed r (v ∷ []) is).0;
}
