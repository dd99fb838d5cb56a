-- The call hands the output on for good, so that what `append_form` says of its end holds here.
use Rattle.std.proofs.Common.{[], ◌∷◌, refl}
use Rattle.html_escape.proofs.Steps.{proved, id⊢, Fml, ftrue, flft, named, inst_fn, ‵, raw, ◌⊛◌, some, later, ◌$◌, ◌∵◌, !, qed, done, move, drop, use1, split, join, pick, await, suffices, group, enter, addr, stop, no_more, and_then, returns, alloc_all, pass_all, free_all, look_at, get, through, sets, lands_as, Lfts, tables, u8, SliceRefOf, yes, no, Is, shows, param, RattleType, MutRef, mut_vals, mut_Tells, Slot, plain, type_at, named_lft, ShrSlice, shr_slice_vals, shr_slice_Tells, nothing, peeks, such_Tells, Str, StrRefOf, Utf8, calls_at, Lasts, lasts, at_exit, closing, Args, Res, triple_of, framed, Stays, stay_dropped, Goes-dropped, Goes-spent_ref, walk_of, ends_at, str_laws}
use Rattle.std.proofs.result.Result.TheLaws.{the_row_laws as result_laws}
use Rattle.hesc_engine.specs.Forms.{string_row}
use Rattle.hesc_engine.proofs.HandsOn.{over}
use Rattle.hesc_places.specs.contracts.markup.types.Attribute as attribute
use Rattle.hesc_places.specs.contracts.markup.types.FormFault as fault
use Rattle.hesc_places.proofs.markup.types.FormFault.TheLaws as fault_laws
use Rattle.hesc_places.specs.contracts.markup.form_builder.build_form as f
use Rattle.hesc_places.specs.contracts.markup.form_builder.append_form as g
use Rattle.hesc_places.proofs.markup.form_builder.build_form.Statement.{statement}
use Rattle.hesc_places.proofs.markup.form_builder.build_form.Code as code
use Rattle.hesc_places.proofs.markup.form_builder.append_form.Met as callee

-- the lifetimes of the attributes, of what is in them, of the script, the output and the allocator, in the order of the call
abbrev turned_lfts : Lfts 5 → Lfts 5
turned_lfts κs = (κs.1.1.1.0, (κs.0, (κs.1.0, (κs.1.1.0, (κs.1.1.1.1.0, tt)))))

-- a slice of attributes
abbrev attributes : Slot 5
attributes = SliceRefOf (0 ∷ []) tt (plain (λ κs. attribute.the_row (named_lft 5 1 tt κs))) (λ κs. tt)

pub build_form_spec : {M : Type 1} → statement M
build_form_spec 𝓤 𝓛 𝓜 𝓡 wired A L alloc d dd met md =
    let given = f.ended A alloc d dd in let turned = g.ended A alloc d dd in
    let c = f.clauses A alloc d dd 𝓛 𝓜.mem 𝓡.returns in let e = g.clauses A alloc d dd 𝓛 𝓜.mem 𝓡.returns in
    let R = string_row (param 0 A) alloc in
    let stayed : Stays given.signature.params given.kept = (stay_dropped _ yes, (stay_dropped _ yes, (stay_dropped _ no, tt))) in
    let W = walk_of 𝓛 given stayed c in let G = triple_of 𝓛 turned.signature (closing 𝓛 turned e) in
    proved 𝓛 given stayed c 𝓜 𝓡 (
      Goes-dropped 𝓛 5 attributes yes (λ κs x w. refl),
      (Goes-dropped 𝓛 5 (StrRefOf (2 ∷ []) tt) yes (λ κs x w. refl), (Goes-spent_ref 𝓛 5 (3 ∷ []) tt (plain (λ _. R)), tt)),
    )
    (f.Key.name (over A d dd)) (inst_fn (over A d dd) code.function) (code.unfolded 𝓤 𝓛.H 𝓜 𝓡 wired (A, tt) d dd)
    (λ κs. (shr_slice_vals, (shr_slice_vals, (mut_vals, tt))))
    (λ κs. (
      shr_slice_Tells (named 0) κs.0 (attribute.the_row (named_lft 5 1 tt κs)),
      (such_Tells (ShrSlice (named 2) κs.1.1.0 u8) (λ x. Utf8 x.now) (λ x cs. (tt, tt)) shr_slice_vals (shr_slice_Tells (named 2) κs.1.1.0 u8), (mut_Tells (named 3) κs.1.1.1.0 R, tt)),
    ))
    (λ κs qs bounds a n are.
    let as₀ = shr_slice_vals a.0 in let ts = shr_slice_vals a.1.0 in let os = mut_vals a.1.1.0 in
    let S₀ : Fml = (type_at attributes κs).own_val a.0 as₀ in
    let S₁ : Fml = (type_at (StrRefOf {n = 5} (2 ∷ []) tt) κs).own_val a.1.0 ts in
    let O : Fml = (MutRef (named 3) κs.1.1.1.0 R).own_val a.1.1.0 os in
    let κs' : Lfts 5 = turned_lfts κs in let a' : Args turned.signature κs' = (a.1.1.0, (a.0, (a.1.0, tt))) in
    let y : W.Ghost = ((κs, qs, bounds, a, (as₀, (ts, (os, tt)))), n) in
    let z : G.Ghost = ((κs', (qs.1.1.1.0, (qs.0, (qs.1.0, (qs.1.1.0, (qs.1.1.1.1.0, tt))))), bounds, a', (os, (as₀, (ts, tt)))), n) in
    let X : RattleType = type_at given.signature.result κs in let Y : RattleType = type_at turned.signature.result κs' in
    let answer_laws = result_laws (Str (named 0) κs.1.1.1.0) fault.the_row (str_laws (record { mir = named 0; lft = κs.1.1.1.0 })) fault_laws.the_row_laws in
    qed 𝓛 (
    (
    (‵ (flft κs.0 qs.0) ⊛ (‵ (flft κs.1.0 qs.1.0) ⊛ (‵ (flft κs.1.1.0 qs.1.1.0) ⊛ (‵ (flft κs.1.1.1.0 qs.1.1.1.0) ⊛ (‵ (flft κs.1.1.1.1.0 qs.1.1.1.1.0) ⊛ ‵ ftrue)))))
    ⊛ (‵ S₀ ⊛ (‵ S₁ ⊛ (‵ O ⊛ ‵ ftrue)))
    ) ∷ raw ((c κs a).requires n) ∷ []
    ) ∵
    -- [the tokens and the parameters; the `requires`]
    split ! $ split ! $ move ! (1 ∷ []) $ split ! $ move ! (1 ∷ []) $ split ! $ move ! (1 ∷ []) $ split ! $
    -- [the output's token; the allocator's; the script's; the attributes' two; the parameters; the `requires`]
    move ! (2 ∷ 1 ∷ []) $ join ! $ move ! (2 ∷ 0 ∷ []) $ join ! $ move ! (2 ∷ 0 ∷ []) $ join ! $ move ! (1 ∷ 0 ∷ []) $ join ! $
    move ! (1 ∷ []) $ split ! $ move ! (1 ∷ []) $ split ! $ move ! (1 ∷ []) $ split ! $
    -- [the output; nothing; the script; the attributes; the tokens; the `requires`]
    move ! (2 ∷ 1 ∷ []) $ join ! $ move ! (2 ∷ 0 ∷ []) $ join ! $ move ! (1 ∷ 0 ∷ []) $ join ! $ move ! (1 ∷ 0 ∷ []) $ join ! $ join ! $
    use1 𝓛 (raw (G.pre z)) (id⊢ 𝓤 _) $
    enter ! _ _ _ _ _ $
    alloc_all ! (λ l. pass_all ! refl (
      (tt, (tt, (record { fits = are.0.0.1.0 }, tt))),
      ((tt, (tt, (record { fits = are.1.0.0.0.1.0 }, tt))), ((tt, tt), tt)),
    ) $
    sets ! (addr ! (through ! refl (stop !))) refl (tt, tt) $
    calls_at ! (framed 𝓤 𝓛.H 𝓜 (tables 𝓤 𝓛.H 𝓜 𝓡 𝓡.env)) G (callee.met 𝓤 𝓛 𝓜 𝓡 (code.calls-hesc_places::markup::form_builder::append_form 𝓡.env wired) A L alloc d dd met md) z
    (and_then ! (get ! refl) (and_then ! (get ! refl) (and_then ! (get ! refl) (no_more !)))) (λ v.
    use1 𝓛 (
    later (some (λ (r : Res turned.signature κs'). (
    (‵ (flft κs.1.1.1.0 qs.1.1.1.0) ⊛ (‵ (flft κs.0 qs.0) ⊛ (‵ (flft κs.1.0 qs.1.0) ⊛ (‵ (flft κs.1.1.0 qs.1.1.0) ⊛ (‵ (flft κs.1.1.1.1.0 qs.1.1.1.1.0) ⊛ ‵ ftrue)))))
    ⊛ ‵ (Y.own_val r (v ∷ []))
    ) ⊛ some (λ (ws : Lasts turned κs' a'). ‵ (lasts turned κs' a' ws) ⊛ raw ((e κs' a').ensures n r (at_exit turned κs' a' ws)))))
    ) (id⊢ 𝓤 _) $
    await ! tt $ pick ! (λ r. split ! $ split ! $ move ! (2 ∷ []) $ pick ! (λ ws. split ! $ drop ! $
    -- [the clauses; the tokens; the answer]
    use1 𝓛 (raw ((c κs a).ensures n r (at_exit given κs a (tt, (tt, (tt, tt)))))) (id⊢ 𝓤 _) $
    move ! (2 ∷ []) $ peeks ! Y (Is Y) (shows 𝓛 Y) r (v ∷ []) (λ is. lands_as ! refl refl (((answer_laws.lawful 𝓛).typed r (v ∷ []) is).0) $
    use1 𝓛 (‵ (X.own_val r (v ∷ []))) (id⊢ 𝓤 _) $
    returns ! (look_at ! 0 refl) $ free_all ! refl $
    -- [the answer; the clauses; the tokens]
    move ! (2 ∷ []) $ split ! $ move ! (1 ∷ []) $ split ! $ move ! (1 ∷ []) $ split ! $ move ! (1 ∷ []) $ split ! $
    -- [the script's token; the allocator's; the attributes' two; the output's; the answer; the clauses]
    move ! (4 ∷ 1 ∷ []) $ join ! $ move ! (1 ∷ 0 ∷ []) $ join ! $ move ! (1 ∷ 0 ∷ []) $ join ! $ move ! (1 ∷ 0 ∷ []) $ join ! $
    suffices ! _ (ends_at 𝓛 given stayed c y v r (tt, (tt, (tt, tt))) (tt, (tt, (tt, tt)))) $
    nothing ! $ nothing ! $ join ! $ nothing ! $ join ! $ nothing ! $ join ! $ move ! (1 ∷ 0 ∷ []) $ group ! 3 $ done !))))))
