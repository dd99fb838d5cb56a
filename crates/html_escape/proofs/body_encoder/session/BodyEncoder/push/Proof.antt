-- The call hands the output and the session on for good, so that what `append_piece` says of their ends holds here.
use Rattle.std.proofs.Common.{[], ◌∷◌, refl}
use Rattle.html_escape.proofs.Steps.{proved, id⊢, Fml, ftrue, flft, named, inst_fn, ‵, raw, ◌⊛◌, some, later, ◌$◌, ◌∵◌, !, qed, done, move, drop, use1, split, fsplit, join, pick, await, suffices, group, enter, addr, stop, no_more, and_then, returns, alloc_all, pass_all, free_all, look_at, get, through, sets, lands_as, Lfts, tables, u8, yes, no, Is, shows, param, RattleType, MutRef, mut_vals, mut_Tells, plain, type_at, ShrSlice, shr_slice_vals, shr_slice_Tells, nothing, peeks, such_Tells, Str, StrRefOf, Utf8, calls_at, Lasts, lasts, at_exit, closing, Args, Res, triple_of, framed, Stays, gave_ref, stay_dropped, Goes-gave_ref, Goes-dropped, Goes-spent_ref, walk_of, ends_at, str_laws}
use Rattle.std.proofs.result.Result.TheLaws.{the_row_laws as result_laws}
use Rattle.std.proofs.alloc.AllocError.TheLaws.{the_row_laws as error_laws}
use Rattle.std.specs.contracts.alloc.AllocError as error
use Rattle.hesc_engine.specs.Forms.{string_row}
use Rattle.hesc_engine.proofs.HandsOn.{over}
use Rattle.html_escape.specs.contracts.body_encoder.session.BodyEncoder as encoder
use Rattle.html_escape.specs.contracts.body_encoder.session.BodyEncoder.push as f
use Rattle.html_escape.specs.contracts.body_encoder.session.BodyEncoder.append_piece as g
use Rattle.html_escape.proofs.body_encoder.session.BodyEncoder.push.Statement.{statement}
use Rattle.html_escape.proofs.body_encoder.session.BodyEncoder.push.Code as code
use Rattle.html_escape.proofs.body_encoder.session.BodyEncoder.append_piece.Met as callee

-- the lifetimes of the session, the piece, the output and the allocator, in the order of the call
abbrev turned_lfts : Lfts 4 → Lfts 4
turned_lfts κs = (κs.1.1.0, (κs.0, (κs.1.0, (κs.1.1.1.0, tt))))

pub push_spec : {M : Type 1} → statement M
push_spec 𝓤 𝓛 𝓜 𝓡 wired A L alloc d dd met md =
    let given = f.ended A alloc d dd in let turned = g.ended A alloc d dd in
    let c = f.clauses A alloc d dd 𝓛 𝓜.mem 𝓡.returns in let e = g.clauses A alloc d dd 𝓛 𝓜.mem 𝓡.returns in
    let R = string_row (param 0 A) alloc in
    let stayed : Stays given.signature.params given.kept = (gave_ref (0 ∷ []) tt (plain (λ _. encoder.the_row)), (stay_dropped _ yes, (stay_dropped _ no, tt))) in
    let W = walk_of 𝓛 given stayed c in let G = triple_of 𝓛 turned.signature (closing 𝓛 turned e) in
    proved 𝓛 given stayed c 𝓜 𝓡 (
      Goes-gave_ref 𝓛 4 0 tt (plain (λ _. encoder.the_row)),
      (Goes-dropped 𝓛 4 (StrRefOf (1 ∷ []) tt) yes (λ κs x w. refl), (Goes-spent_ref 𝓛 4 (2 ∷ []) tt (plain (λ _. R)), tt)),
    )
    (f.Key.name (over A d dd)) (inst_fn (over A d dd) code.function) (code.unfolded 𝓤 𝓛.H 𝓜 𝓡 wired (A, tt) d dd)
    (λ κs. (mut_vals, (shr_slice_vals, (mut_vals, tt))))
    (λ κs. (
      mut_Tells (named 0) κs.0 encoder.the_row,
      (such_Tells (ShrSlice (named 1) κs.1.0 u8) (λ x. Utf8 x.now) (λ x cs. (tt, tt)) shr_slice_vals (shr_slice_Tells (named 1) κs.1.0 u8), (mut_Tells (named 2) κs.1.1.0 R, tt)),
    ))
    (λ κs qs bounds a n are.
    let es = mut_vals a.0 in let ts = shr_slice_vals a.1.0 in let os = mut_vals a.1.1.0 in
    let E : Fml = (MutRef (named 0) κs.0 encoder.the_row).own_val a.0 es in
    let S : Fml = (type_at (StrRefOf {n = 4} (1 ∷ []) tt) κs).own_val a.1.0 ts in
    let O : Fml = (MutRef (named 2) κs.1.1.0 R).own_val a.1.1.0 os in
    let κs' : Lfts 4 = turned_lfts κs in let a' : Args turned.signature κs' = (a.1.1.0, (a.0, (a.1.0, tt))) in
    let y : W.Ghost = ((κs, qs, bounds, a, (es, (ts, (os, tt)))), n) in
    let z : G.Ghost = ((κs', (qs.1.1.0, (qs.0, (qs.1.0, (qs.1.1.1.0, tt)))), bounds, a', (os, (es, (ts, tt)))), n) in
    let X : RattleType = type_at given.signature.result κs in let Y : RattleType = type_at turned.signature.result κs' in
    let answer_laws = result_laws (Str (named 0) κs.1.1.0) error.the_row (str_laws (record { mir = named 0; lft = κs.1.1.0 })) error_laws in
    qed 𝓛 (
    ((‵ (flft κs.0 qs.0) ⊛ (‵ (flft κs.1.0 qs.1.0) ⊛ (‵ (flft κs.1.1.0 qs.1.1.0) ⊛ (‵ (flft κs.1.1.1.0 qs.1.1.1.0) ⊛ ‵ ftrue)))) ⊛ (‵ E ⊛ (‵ S ⊛ (‵ O ⊛ ‵ ftrue))))
    ∷ raw ((c κs a).requires n) ∷ []
    ) ∵
    -- [the tokens and the parameters; the `requires`]
    split ! $ split ! $ move ! (2 ∷ []) $ split ! $ move ! (1 ∷ []) $ split ! $ move ! (1 ∷ []) $ split ! $
    -- [output; nothing; piece; session; its token; the other tokens; the `requires`]
    move ! (2 ∷ 1 ∷ []) $ join ! $ move ! (2 ∷ 0 ∷ []) $ join ! $ move ! (1 ∷ 0 ∷ []) $ join ! $
    -- [the parameters; the session's token; the other tokens; the `requires`]
    move ! (2 ∷ []) $ split ! $ move ! (1 ∷ []) $ split ! $
    -- [the output's token; the allocator's; the piece's; the parameters; the session's; the `requires`]
    move ! (2 ∷ 1 ∷ []) $ join ! $ move ! (3 ∷ 0 ∷ []) $ join ! $ move ! (1 ∷ 0 ∷ []) $ join ! $ join ! $ join ! $
    use1 𝓛 (raw (G.pre z)) (id⊢ 𝓤 _) $
    enter ! _ _ _ _ _ $
    alloc_all ! (λ l. pass_all ! refl ((tt, tt), ((tt, (tt, (record { fits = are.1.0.0.0.1.0 }, tt))), ((tt, tt), tt))) $
    sets ! (addr ! (through ! refl (stop !))) refl (tt, tt) $ sets ! (addr ! (through ! refl (stop !))) refl (tt, tt) $
    calls_at ! (framed 𝓤 𝓛.H 𝓜 (tables 𝓤 𝓛.H 𝓜 𝓡 𝓡.env)) G (callee.met 𝓤 𝓛 𝓜 𝓡 (code.calls-html_escape::body_encoder::session::BodyEncoder::append_piece 𝓡.env wired) A L alloc d dd met md) z
    (and_then ! (get ! refl) (and_then ! (get ! refl) (and_then ! (get ! refl) (no_more !)))) (λ v.
    use1 𝓛 (
    later (some (λ (r : Res turned.signature κs').
    ((‵ (flft κs.1.1.0 qs.1.1.0) ⊛ (‵ (flft κs.0 qs.0) ⊛ (‵ (flft κs.1.0 qs.1.0) ⊛ (‵ (flft κs.1.1.1.0 qs.1.1.1.0) ⊛ ‵ ftrue)))) ⊛ ‵ (Y.own_val r (v ∷ [])))
    ⊛ some (λ (ws : Lasts turned κs' a'). ‵ (lasts turned κs' a' ws) ⊛ raw ((e κs' a').ensures n r (at_exit turned κs' a' ws)))))
    ) (id⊢ 𝓤 _) $
    await ! tt $ pick ! (λ r. split ! $ split ! $ move ! (2 ∷ []) $ pick ! (λ ws. split ! $
    -- [what is left of the output and the session; the clauses; the tokens; the answer]
    fsplit ! $ drop ! $ fsplit ! $ move ! (1 ∷ []) $ drop ! $ move ! (1 ∷ []) $
    -- [the clauses; what is left of the session; the tokens; the answer]
    use1 𝓛 (raw ((c κs a).ensures n r (at_exit given κs a (ws.1.0, (tt, (tt, tt)))))) (id⊢ 𝓤 _) $
    move ! (3 ∷ []) $ peeks ! Y (Is Y) (shows 𝓛 Y) r (v ∷ []) (λ is. lands_as ! refl refl (((answer_laws.lawful 𝓛).typed r (v ∷ []) is).0) $
    use1 𝓛 (‵ (X.own_val r (v ∷ []))) (id⊢ 𝓤 _) $
    returns ! (look_at ! 0 refl) $ free_all ! refl $
    -- [the answer; the clauses; what is left of the session; the tokens]
    move ! (3 ∷ []) $ split ! $ move ! (1 ∷ []) $ split ! $ move ! (1 ∷ []) $ split ! $
    -- [the piece's token; the allocator's; the session's; the output's; the answer; the clauses; what is left of the session]
    move ! (3 ∷ 1 ∷ []) $ join ! $ move ! (1 ∷ 0 ∷ []) $ join ! $ move ! (1 ∷ 0 ∷ []) $ join ! $
    suffices ! _ (ends_at 𝓛 given stayed c y v r (ws.1.0, (tt, (tt, tt))) (tt, (tt, (tt, tt)))) $
    nothing ! $ nothing ! $ join ! $ nothing ! $ join ! $ move ! (4 ∷ 0 ∷ []) $ join ! $ move ! (1 ∷ 0 ∷ []) $ group ! 3 $ done !))))))
