-- The call hands the output on for good, so that what `append_enclosed` says of its end holds here.
use Rattle.std.proofs.Common.{List, [], ◌∷◌, refl}
use Rattle.html_escape.proofs.Steps.{proved, id⊢, Fml, ftrue, flft, named, inst_fn, Val, ‵, raw, ◌⊛◌, some, later, ◌$◌, ◌∵◌, !, qed, done, move, drop, use1, split, join, pick, await, suffices, group, enter, addr, stop, no_more, and_then, returns, alloc_all, pass_all, free_all, look_at, get, through, sets, lands_as, Lfts, tables, u8, yes, no, Is, shows, param, RattleType, MutRef, mut_vals, mut_Tells, plain, type_at, ShrSlice, shr_slice_vals, shr_slice_Tells, nothing, peeks, such_Tells, Str, StrRefOf, Utf8, calls_at, Lasts, lasts, at_exit, closing, Args, Res, triple_of, framed, Stays, stay_dropped, Goes-dropped, Goes-spent_ref, walk_of, ends_at, str_laws}
use Rattle.std.proofs.result.Result.TheLaws.{the_row_laws as result_laws}
use Rattle.html_escape.specs.contracts.encoder.Encoder as encoder
use Rattle.html_escape.proofs.encoder.Encoder.TheLaws as encoder_laws
use Rattle.hesc_engine.specs.Forms.{string_row}
use Rattle.hesc_engine.proofs.HandsOn.{over, turned_lfts}
use Rattle.hesc_grammars.specs.contracts.place.Place as place
use Rattle.hesc_grammars.proofs.place.Place.TheLaws as place_laws
use Rattle.hesc_places.specs.contracts.place.enclosing.PlaceFault as fault
use Rattle.hesc_places.proofs.place.enclosing.PlaceFault.TheLaws as fault_laws
use Rattle.hesc_places.specs.contracts.place.enclosing.enclose as f
use Rattle.hesc_places.specs.contracts.place.enclosing.append_enclosed as g
use Rattle.hesc_places.proofs.place.enclosing.enclose.Statement.{statement}
use Rattle.hesc_places.proofs.place.enclosing.enclose.Code as code
use Rattle.hesc_places.proofs.place.enclosing.append_enclosed.Met as callee

pub enclose_spec : {M : Type 1} → statement M
enclose_spec 𝓤 𝓛 𝓜 𝓡 wired A L alloc d dd met md =
    let given = f.ended A alloc d dd in let turned = g.ended A alloc d dd in
    let c = f.clauses A alloc d dd 𝓛 𝓜.mem 𝓡.returns in let e = g.clauses A alloc d dd 𝓛 𝓜.mem 𝓡.returns in
    let R = string_row (param 0 A) alloc in
    let stayed : Stays given.signature.params given.kept = (stay_dropped _ yes, (stay_dropped _ yes, (stay_dropped _ yes, (stay_dropped _ no, tt)))) in
    let W = walk_of 𝓛 given stayed c in let G = triple_of 𝓛 turned.signature (closing 𝓛 turned e) in
    proved 𝓛 given stayed c 𝓜 𝓡 (
      Goes-dropped 𝓛 3 (plain (λ _. encoder.the_row)) yes (λ κs x w. refl),
      (
        Goes-dropped 𝓛 3 (plain (λ _. place.the_row)) yes (λ κs x w. refl),
        (Goes-dropped 𝓛 3 (StrRefOf (0 ∷ []) tt) yes (λ κs x w. refl), (Goes-spent_ref 𝓛 3 (1 ∷ []) tt (plain (λ _. R)), tt)),
      ),
    )
    (f.Key.name (over A d dd)) (inst_fn (over A d dd) code.function) (code.unfolded 𝓤 𝓛.H 𝓜 𝓡 wired (A, tt) d dd)
    (λ κs. ((λ x. encoder_laws.lowered x ∷ []), ((λ x. place_laws.lowered x ∷ []), (shr_slice_vals, (mut_vals, tt)))))
    (λ κs. (encoder_laws.lowers.val_is, (place_laws.lowers.val_is, (such_Tells (ShrSlice (named 0) κs.0 u8) (λ x. Utf8 x.now) (λ x cs. (tt, tt)) shr_slice_vals (shr_slice_Tells (named 0) κs.0 u8), (mut_Tells (named 1) κs.1.0 R, tt)))))
    (λ κs qs bounds a n are.
    let es : List Val = encoder_laws.lowered a.0 ∷ [] in let ps : List Val = place_laws.lowered a.1.0 ∷ [] in
    let ts = shr_slice_vals a.1.1.0 in let os = mut_vals a.1.1.1.0 in
    let E : Fml = encoder.the_row.own_val a.0 es in let P : Fml = place.the_row.own_val a.1.0 ps in
    let S : Fml = (type_at (StrRefOf {n = 3} (0 ∷ []) tt) κs).own_val a.1.1.0 ts in
    let O : Fml = (MutRef (named 1) κs.1.0 R).own_val a.1.1.1.0 os in
    let κs' : Lfts 3 = turned_lfts κs in let a' : Args turned.signature κs' = (a.1.1.1.0, (a.0, (a.1.0, (a.1.1.0, tt)))) in
    let y : W.Ghost = ((κs, qs, bounds, a, (es, (ps, (ts, (os, tt))))), n) in
    let z : G.Ghost = ((κs', (qs.1.0, (qs.0, (qs.1.1.0, tt))), bounds, a', (os, (es, (ps, (ts, tt))))), n) in
    let X : RattleType = type_at given.signature.result κs in let Y : RattleType = type_at turned.signature.result κs' in
    let answer_laws = result_laws (Str (named 0) κs.1.0) fault.the_row (str_laws (record { mir = named 0; lft = κs.1.0 })) fault_laws.the_row_laws in
    qed 𝓛 (((‵ (flft κs.0 qs.0) ⊛ (‵ (flft κs.1.0 qs.1.0) ⊛ (‵ (flft κs.1.1.0 qs.1.1.0) ⊛ ‵ ftrue))) ⊛ (‵ E ⊛ (‵ P ⊛ (‵ S ⊛ (‵ O ⊛ ‵ ftrue))))) ∷ raw ((c κs a).requires n) ∷ []) ∵
    -- [the tokens and the parameters; the `requires`]
    split ! $ split ! $ move ! (2 ∷ []) $ split ! $ move ! (1 ∷ []) $ split ! $ move ! (1 ∷ []) $ split ! $ move ! (1 ∷ []) $ split ! $
    -- [output; nothing; text; place; encoder; the first token; the other tokens; the `requires`]
    move ! (2 ∷ 1 ∷ []) $ join ! $ move ! (2 ∷ 0 ∷ []) $ join ! $ move ! (2 ∷ 0 ∷ []) $ join ! $ move ! (1 ∷ 0 ∷ []) $ join ! $
    move ! (2 ∷ []) $ split ! $ move ! (3 ∷ 1 ∷ []) $ join ! $ move ! (1 ∷ 0 ∷ []) $ join ! $ join ! $ join ! $ use1 𝓛 (raw (G.pre z)) (id⊢ 𝓤 _) $
    enter ! _ _ _ _ _ $
    alloc_all ! (λ l. pass_all ! refl (((encoder_laws.the_row_laws.lawful 𝓛).typed a.0 es are.0).0, (((place_laws.the_row_laws.lawful 𝓛).typed a.1.0 ps are.1.0).0, ((tt, (tt, (record { fits = are.1.1.0.0.0.1.0 }, tt))), ((tt, tt), tt)))) $
    sets ! (addr ! (through ! refl (stop !))) refl (tt, tt) $
    calls_at ! (framed 𝓤 𝓛.H 𝓜 (tables 𝓤 𝓛.H 𝓜 𝓡 𝓡.env)) G (callee.met 𝓤 𝓛 𝓜 𝓡 (code.calls-hesc_places::place::enclosing::append_enclosed 𝓡.env wired) A L alloc d dd met md) z
    (and_then ! (get ! refl) (and_then ! (get ! refl) (and_then ! (get ! refl) (and_then ! (get ! refl) (no_more !))))) (λ v.
    use1 𝓛 (later (some (λ (r : Res turned.signature κs'). ((‵ (flft κs.1.0 qs.1.0) ⊛ (‵ (flft κs.0 qs.0) ⊛ (‵ (flft κs.1.1.0 qs.1.1.0) ⊛ ‵ ftrue))) ⊛ ‵ (Y.own_val r (v ∷ []))) ⊛
    some (λ (ws : Lasts turned κs' a'). ‵ (lasts turned κs' a' ws) ⊛ raw ((e κs' a').ensures n r (at_exit turned κs' a' ws)))))) (id⊢ 𝓤 _) $
    await ! tt $ pick ! (λ r. split ! $ split ! $ move ! (2 ∷ []) $ pick ! (λ ws. split ! $ drop ! $
    -- [the clauses; the tokens; the answer]
    use1 𝓛 (raw ((c κs a).ensures n r (at_exit given κs a (tt, (tt, (tt, (tt, tt))))))) (id⊢ 𝓤 _) $
    move ! (2 ∷ []) $ peeks ! Y (Is Y) (shows 𝓛 Y) r (v ∷ []) (λ is. lands_as ! refl refl (((answer_laws.lawful 𝓛).typed r (v ∷ []) is).0) $
    use1 𝓛 (‵ (X.own_val r (v ∷ []))) (id⊢ 𝓤 _) $
    returns ! (look_at ! 0 refl) $ free_all ! refl $
    -- [the answer; the clauses; the tokens]
    move ! (2 ∷ []) $ split ! $ move ! (1 ∷ []) $ split ! $ move ! (2 ∷ 1 ∷ []) $ join ! $ move ! (1 ∷ 0 ∷ []) $ join ! $
    suffices ! _ (ends_at 𝓛 given stayed c y v r (tt, (tt, (tt, (tt, tt)))) (tt, (tt, (tt, (tt, tt))))) $
    nothing ! $ nothing ! $ join ! $ nothing ! $ join ! $ nothing ! $ join ! $ nothing ! $ join ! $ move ! (1 ∷ 0 ∷ []) $ group ! 3 $ done !))))))
