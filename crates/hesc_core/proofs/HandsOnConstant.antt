-- A function of a text and an output at any allocator that only calls the function of the output, a constant and the text, and answers what that answers: as in `HandsOn`, with a value of an enum without fields between the two.
use Rattle.std.proofs.Common.{◌≡◌, ℕ, ◌^◌, true, [], ◌∷◌, refl}
use Rattle.std.proofs.raw_atomic.Walks.{proved}
use seplogic.Ra.Ura.{Ura}
use base.Logic.{ent, id⊢}
use base.Fml.{Fml, ftrue, flft}
use lib.Dec.{T, ltb}
use mir.Syntax.{Fn, Callee, aggregate, int, w8, local, value_local, seq, assign, call, return, place, copy, addr_of, deref, ty_ref, named, erased, mut}
use mir.Val.{Val, WT, bits, has_ty, of_list, vint, vstruct}
use prog.Model.{Model}
use prog.Wired.{Code, Wired}
use prog.Wp.{Closed}
use types.Logic.{Logic}
use contract.Lifetimes.{Lfts}
use contract.Running.{Running, tables}
use types.Part.{agg}
use types.Kit.{‵, raw, ◌⊛◌, some, later, ◌$◌, ◌∵◌, !, qed, done, move, drop, use1, split, join, pick as pick_i, await, suffices, group}
use types.Run.{lit, enter, addr, stop, no_more, and_then, returns}
use types.ByLocal.{alloc_all, pass_all, free_all, look_at, get, through, sets, lands_as}
use denote.Exit.{Last, yes, no}
use denote.RattleType.{RattleType}
use denote.Laws.{Is, shows}
use denote.Memory.{lone, pointee}
use denote.Builtin.{u8}
use denote.Ref.{MutRef, mut_vals, mut_Tells}
use denote.Slice.{ShrSlice, shr_slice_vals, shr_slice_Tells}
use denote.Such.{such_Tells}
use denote.Text.{StrRefOf, Utf8}
use denote.Signature.{plain, type_at, mut_ref_to}
use denote.Shadow.{makes_shadow}
use denote.Param.Glue as glue
use denote.Param.Laws.{Laws}
use denote.Param.Plain.{IsPlain}
use denote.Steps.{nothing, owned, peeks}
use denote.Triple.Entry.{Args, Res}
use denote.Triple.Call.{calls_at}
use denote.Triple.Clauses.{Ended, Clauses, Lasts, lasts, at_exit, closing}
use denote.Triple.Spec.{Meets, triple_of}
use denote.Triple.Statement.{Triple}
use denote.Triple.Table.{framed}
use denote.Triple.Walked.{Stays, stay_dropped, Goes-dropped, Goes-spent_ref, walk_of, ends_at}
use mir.Syntax.{Args as TypeArgs, Dict}
use mir.MapTy.{inst_fn}
use Rattle.std.specs.contracts.alloc.Allocator.TheBound as bound
use Rattle.std.specs.declared.alloc.Allocator.{Ghosts}
use Rattle.hesc_engine.proofs.HandsOn.{Form, answered, given, over, turned_lfts}

-- an enum without fields: its values are facts alone, and at the end of a call nothing more is known of one
pub record Enum : Type 3 where
  pub P : RattleType
  pub facts_only : IsPlain P
  pub last : (x : P.Denot) → Last (P.exit (λ x'. true)) x
  pub only : (x : P.Denot) (l : Last (P.exit (λ x'. true)) x) → last x ≡ l

-- a value of it, as a call passes it
pub record Constant (enum : Enum) : Type 0 where
  pub value : enum.P.Denot
  pub tag : ℕ
  pub small : T (ltb tag (2 ^ bits w8))
  pub is : Is enum.P value (vstruct (of_list (vint w8 tag ∷ [])) ∷ [])
  pub typed : T (has_ty (lone enum.P.mir) (vstruct (of_list (vint w8 tag ∷ [])))) × WT (vstruct (of_list (vint w8 tag ∷ [])))

module _ (form : Form) (P : RattleType) where
  open form use {R, Y}

  abbrev pub turned : Ended
  turned = record {
    signature = record { lifetimes = 3; outlives = record { long = 2; long_ok = tt; short = named 0; short_ok = tt } ∷ []; params = mut_ref_to (0 ∷ []) tt (plain (λ κs. R)) ∷ plain (λ κs. P) ∷ StrRefOf (1 ∷ []) tt ∷ []; result = Y };
    kept = (no, (yes, (yes, tt)));
  }

module _ (form : Form) (enum : Enum) (constant : Constant enum) where
  open form use {R, X, Y, same, fits}
  open enum use {P, facts_only}
  open constant use {value, tag, small, is, typed}

  abbrev word : Val
  word = vstruct (of_list (vint w8 tag ∷ []))

  abbrev pub turned_args : (κs : Lfts 3) → Args (given form).signature κs → Args (turned form P).signature (turned_lfts κs)
  turned_args κs a = (a.1.0, (value, (a.0, tt)))

  abbrev stayed : Stays (given form).signature.params (given form).kept
  stayed = (stay_dropped _ yes, (stay_dropped _ no, tt))

  -- the function that calls k
  abbrev pub handing : Fn → Callee → Fn
  handing h k = record {
    lifetimes = h.lifetimes;
    outlives = h.outlives;
    ty_params = h.ty_params;
    givens = h.givens;
    params = 2;
    locals = local (answered X) value_local ∷ local (lone (type_at (StrRefOf {n = 3} (0 ∷ []) tt) ([], ([], ([], tt)))).mir) value_local ∷ local (ty_ref (named 1) mut (pointee R.written)) value_local
        ∷ local (ty_ref erased mut (pointee R.written)) value_local ∷ local (lone P.mir) value_local ∷ [];
    body = seq (assign (place 3 []) (addr_of (place 2 (deref (lone R.mir) ∷ [])))) (seq (assign (place 4 []) (aggregate (int w8 tag ∷ []))) (seq (call k (copy (place 3 []) ∷ copy (place 4 []) ∷ copy (place 1 []) ∷ []) (place 0 [])) return));
  }

  module _ {M : Type 1} (𝓤 : Ura M) (𝓛 : Logic 𝓤) (𝓜 : Model 𝓤 𝓛.H) (𝓡 : Running 𝓤 𝓛.H 𝓜) (c : Clauses 𝓤 (given form)) (d : Clauses 𝓤 (turned form P))
      (pick : (κs : Lfts 3) (a : Args (given form).signature κs) → (c κs a).ghost → (d (turned_lfts κs) (turned_args κs a)).ghost)
      (into : (κs : Lfts 3) (a : Args (given form).signature κs) (n : (c κs a).ghost) → ent 𝓤 ((c κs a).requires n) ((d (turned_lfts κs) (turned_args κs a)).requires (pick κs a n)))
      (out : (κs : Lfts 3) (a : Args (given form).signature κs) (n : (c κs a).ghost) (r : Res (turned form P).signature (turned_lfts κs)) (ws : Lasts (turned form P) (turned_lfts κs) (turned_args κs a))
      → ent 𝓤 ((d (turned_lfts κs) (turned_args κs a)).ensures (pick κs a n) r (at_exit (turned form P) (turned_lfts κs) (turned_args κs a) ws)) ((c κs a).ensures n (same κs r) (at_exit (given form) κs a (tt, (tt, tt)))))
      (A₀ : RattleType) (δ ε : Dict) (h : Fn) (f' g' : TypeArgs → Callee) (closed : Closed 𝓤 𝓛.H (tables 𝓤 𝓛.H 𝓜 𝓡 𝓡.env).C (tables 𝓤 𝓛.H 𝓜 𝓡 𝓡.env).Λ (f' (over A₀ δ ε)) (handing (inst_fn (over A₀ δ ε) h) (g' (over A₀ δ ε))))
      (met : Triple 𝓤 ((tables 𝓤 𝓛.H 𝓜 𝓡 𝓡.env).C (g' (over A₀ δ ε))) (triple_of 𝓛 (turned form P).signature (closing 𝓛 (turned form P) d))) where
    pub hands_on : Meets 𝓛 (given form).signature ((tables 𝓤 𝓛.H 𝓜 𝓡 𝓡.env).C (f' (over A₀ δ ε))) (closing 𝓛 (given form) c)
    hands_on =
        let W = walk_of 𝓛 (given form) stayed c in
        proved 𝓛 (given form) stayed c 𝓜 𝓡 (Goes-dropped 𝓛 3 (StrRefOf (0 ∷ []) tt) yes (λ κs x w. refl), (Goes-spent_ref 𝓛 3 (1 ∷ []) tt (plain (λ _. R)), tt)) (f' (over A₀ δ ε)) (handing (inst_fn (over A₀ δ ε) h) (g' (over A₀ δ ε))) closed
        (λ κs. (shr_slice_vals, (mut_vals, tt)))
        (λ κs. (such_Tells (ShrSlice (named 0) κs.0 u8) (λ x. Utf8 x.now) (λ x cs. (tt, tt)) shr_slice_vals (shr_slice_Tells (named 0) κs.0 u8), (mut_Tells (named 1) κs.1.0 R, tt))) (λ κs qs bounds a n are.
        let ts = shr_slice_vals a.0 in let os = mut_vals a.1.0 in
        let S : Fml = (type_at (StrRefOf {n = 3} (0 ∷ []) tt) κs).own_val a.0 ts in
        let O : Fml = (MutRef (named 1) κs.1.0 R).own_val a.1.0 os in
        let G = triple_of 𝓛 (turned form P).signature (closing 𝓛 (turned form P) d) in
        let κs' : Lfts 3 = turned_lfts κs in let a' : Args (turned form P).signature κs' = turned_args κs a in
        let y : W.Ghost = ((κs, qs, bounds, a, (ts, (os, tt))), n) in
        let z : G.Ghost = ((κs', (qs.1.0, (qs.0, (qs.1.1.0, tt))), bounds, a', (os, (word ∷ [], (ts, tt)))), pick κs a n) in
        let A : RattleType = type_at Y κs' in
        qed 𝓛 (((‵ (flft κs.0 qs.0) ⊛ (‵ (flft κs.1.0 qs.1.0) ⊛ (‵ (flft κs.1.1.0 qs.1.1.0) ⊛ ‵ ftrue))) ⊛ (‵ S ⊛ (‵ O ⊛ ‵ ftrue))) ∷ raw ((c κs a).requires n) ∷ []) ∵
        move ! (1 ∷ []) $ use1 𝓛 (raw ((d κs' a').requires (pick κs a n))) (into κs a n) $ move ! (1 ∷ []) $
        split ! $ split ! $ move ! (2 ∷ []) $ split ! $ move ! (1 ∷ []) $ split ! $ move ! (2 ∷ 1 ∷ []) $ join ! $
        owned ! P (Is P) (λ x vs e. makes_shadow 𝓛 (P.own_val x vs) (facts_only x vs) e) value (word ∷ []) is $ join ! $ move ! (1 ∷ 0 ∷ []) $ join ! $
        move ! (2 ∷ []) $ split ! $ move ! (3 ∷ 1 ∷ []) $ join ! $ move ! (1 ∷ 0 ∷ []) $ join ! $ join ! $ join ! $ use1 𝓛 (raw (G.pre z)) (id⊢ 𝓤 _) $
        enter ! _ _ _ _ _ $ alloc_all ! (λ l. pass_all ! refl ((tt, (tt, (record { fits = are.0.0.0.1.0 }, tt))), ((tt, tt), tt)) $
        sets ! (addr ! (through ! refl (stop !))) refl (tt, tt) $
        sets ! (agg ! (and_then ! (lit ! small) (no_more !))) refl typed $
        calls_at ! (framed 𝓤 𝓛.H 𝓜 (tables 𝓤 𝓛.H 𝓜 𝓡 𝓡.env)) G met z
        (and_then ! (get ! refl) (and_then ! (get ! refl) (and_then ! (get ! refl) (no_more !)))) (λ v.
        use1 𝓛 (later (some (λ (r : Res (turned form P).signature κs'). ((‵ (flft κs.1.0 qs.1.0) ⊛ (‵ (flft κs.0 qs.0) ⊛ (‵ (flft κs.1.1.0 qs.1.1.0) ⊛ ‵ ftrue))) ⊛ ‵ (A.own_val r (v ∷ []))) ⊛
        some (λ (ws : Lasts (turned form P) κs' a'). ‵ (lasts (turned form P) κs' a' ws) ⊛ raw ((d κs' a').ensures (pick κs a n) r (at_exit (turned form P) κs' a' ws)))))) (id⊢ 𝓤 _) $
        await ! tt $ pick_i ! (λ r. split ! $ split ! $ move ! (2 ∷ []) $ pick_i ! (λ ws. split ! $ drop ! $
        -- [the clauses; the tokens; the answer]
        use1 𝓛 (raw ((c κs a).ensures n (same κs r) (at_exit (given form) κs a (tt, (tt, tt))))) (out κs a n r ws) $
        move ! (2 ∷ []) $ peeks ! A (Is A) (shows 𝓛 A) r (v ∷ []) (λ answered_is. lands_as ! refl refl (fits 𝓛 κs r v answered_is) $
        use1 𝓛 (‵ ((type_at X κs).own_val (same κs r) (v ∷ []))) (form.owned 𝓛 κs r v) $
        returns ! (look_at ! 0 refl) $ free_all ! refl $
        -- [the answer; the clauses; the tokens]
        move ! (2 ∷ []) $ split ! $ move ! (1 ∷ []) $ split ! $ move ! (2 ∷ 1 ∷ []) $ join ! $ move ! (1 ∷ 0 ∷ []) $ join ! $
        suffices ! _ (ends_at 𝓛 (given form) stayed c y v (same κs r) (tt, (tt, tt)) (tt, (tt, tt))) $
        nothing ! $ nothing ! $ join ! $ nothing ! $ join ! $ move ! (1 ∷ 0 ∷ []) $ group ! 3 $ done !))))))

-- a function of the output, such a value and a text, with all that a function that hands on to it has to know of it
pub record Family (enum : Enum) : Type 3 where
  pub form : (A : RattleType) → Ghosts A.Denot → Form
  pub back : (A : RattleType) (alloc : Ghosts A.Denot) (κs : Lfts 3) → (type_at (form A alloc).X κs).Denot → (type_at (form A alloc).Y (turned_lfts κs)).Denot
  pub again : (A : RattleType) (alloc : Ghosts A.Denot) (κs : Lfts 3) (r : (type_at (form A alloc).Y (turned_lfts κs)).Denot) → back A alloc κs ((form A alloc).same κs r) ≡ r
  pub name : TypeArgs → Callee
  pub code : Code
  pub clauses : {M : Type 1} (𝓤 : Ura M) (𝓛 : Logic 𝓤) (𝓜 : Model 𝓤 𝓛.H) (𝓡 : Running 𝓤 𝓛.H 𝓜) (A : RattleType) (alloc : Ghosts A.Denot) (δ ε : Dict) → Clauses 𝓤 (turned (form A alloc) enum.P)
  pub met : {M : Type 1} (𝓤 : Ura M) (𝓛 : Logic 𝓤) (𝓜 : Model 𝓤 𝓛.H) (𝓡 : Running 𝓤 𝓛.H 𝓜) → Wired 𝓡.env code
      → (A : RattleType) → Laws A → (alloc : Ghosts A.Denot) (δ ε : Dict) → bound.Met 𝓛 𝓜 𝓡 𝓡.env A alloc δ → glue.Met 𝓛 𝓜 𝓡 𝓡.env A ε
      → Triple 𝓤 ((tables 𝓤 𝓛.H 𝓜 𝓡 𝓡.env).C (name (over A δ ε))) (triple_of 𝓛 (turned (form A alloc) enum.P).signature (closing 𝓛 (turned (form A alloc) enum.P) (clauses 𝓤 𝓛 𝓜 𝓡 A alloc δ ε)))

module _ {enum : Enum} (family : Family enum) (constant : Constant enum) {M : Type 1} (𝓤 : Ura M) (𝓛 : Logic 𝓤) (𝓜 : Model 𝓤 𝓛.H) (𝓡 : Running 𝓤 𝓛.H 𝓜)
    (A : RattleType) (L : Laws A) (alloc : Ghosts A.Denot) (δ ε : Dict) (met : bound.Met 𝓛 𝓜 𝓡 𝓡.env A alloc δ) (md : glue.Met 𝓛 𝓜 𝓡 𝓡.env A ε) where
  abbrev form : Form
  form = family.form A alloc

  abbrev callee : Clauses 𝓤 (turned form enum.P)
  callee = family.clauses 𝓤 𝓛 𝓜 𝓡 A alloc δ ε

  abbrev args : (κs : Lfts 3) → Args (given form).signature κs → Args (turned form enum.P).signature (turned_lfts κs)
  args = turned_args form enum constant

  -- what the function of the ported order has to meet: the same of the same values
  abbrev pub given_clauses : Clauses 𝓤 (given form)
  given_clauses κs a =
      let b = callee (turned_lfts κs) (args κs a) in
      record {
        ghost = b.ghost;
        requires = b.requires;
        ensures = λ n r x. b.ensures n (family.back A alloc κs r) (at_exit (turned form enum.P) (turned_lfts κs) (args κs a) (tt, (enum.last constant.value, (tt, tt))));
      }

  same_ensures : (κs : Lfts 3) (a : Args (given form).signature κs) (n : (given_clauses κs a).ghost) (r : Res (turned form enum.P).signature (turned_lfts κs)) (ws : Lasts (turned form enum.P) (turned_lfts κs) (args κs a))
      → ent 𝓤 ((callee (turned_lfts κs) (args κs a)).ensures n r (at_exit (turned form enum.P) (turned_lfts κs) (args κs a) ws)) ((given_clauses κs a).ensures n (form.same κs r) (at_exit (given form) κs a (tt, (tt, tt))))
  same_ensures κs a n r ws = rw (family.again A alloc κs r, enum.only constant.value ws.1.0) (id⊢ 𝓤 _)

  pub by_family : (h : Fn) {k : Callee}
      (closed : Closed 𝓤 𝓛.H (tables 𝓤 𝓛.H 𝓜 𝓡 𝓡.env).C (tables 𝓤 𝓛.H 𝓜 𝓡 𝓡.env).Λ k (handing form enum constant (inst_fn (over A δ ε) h) (family.name (over A δ ε))))
      (wired : Wired 𝓡.env family.code)
      → Meets 𝓛 (given form).signature ((tables 𝓤 𝓛.H 𝓜 𝓡 𝓡.env).C k) (closing 𝓛 (given form) given_clauses)
  by_family h {k} closed wired =
      hands_on form enum constant 𝓤 𝓛 𝓜 𝓡 given_clauses callee (λ κs a n. n) (λ κs a n. id⊢ 𝓤 _) same_ensures A δ ε h (λ _. k) family.name closed (family.met 𝓤 𝓛 𝓜 𝓡 wired A L alloc δ ε met md)
