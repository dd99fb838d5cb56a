-- The request is counted; then it is refused, or the inner allocator answers it.
use Rattle.std.proofs.Common.{◌≡◌, ℕ, ◌+◌, Bool, true, false, [], ◌∷◌, Ok, Err, refl, w64}
use Rattle.std.proofs.raw_atomic.Walks.{proved}
use Rattle.std.proofs.alloc.Calls.{Al, token, Takes, at_takes, Takes-goes, Takes-gives, Answered, answers}
use Rattle.std.proofs.alloc.Calls.{Answer, answer_val, Answer-typed, Answer-Ok, Answer-err}
use Rattle.std.proofs.alloc.Shapes.{after}
use Rattle.std.specs.Allocator.{HasLayout, block_if_ok}
use mir.MapTy.{inst_fn}
use mir.Syntax.{Fn}
use mir.Val.{vbool, vint}
use base.Logic.{ent, emp}
use base.Fml.{ftrue, flft}
use types.Logic.{sem}
use contract.BorrowLft.{◌⊑◌, ⊑_trans}
use contract.Monad.{fact}
use contract.Running.{tables}
use types.Kit.{‵, raw, ◌⊛◌, some, later, given, prop, at_ret, Sq, ◌$◌, ◌∵◌, !, qed, done, move, keep}
use types.Kit.{use0, use1, use2, split, join, fsplit, fjoin, pick, learn, await, suffices}
use types.Part.{agg}
use types.Run.{enter, lit, addr, stop, fld, no_more, and_then, first, branches, skips, exec, returns, returns_within}
use types.ByLocal.{alloc_all, pass_all, free_all, look_at, get, through, sets, lands_as, env}
use denote.Builtin.{usize}
use denote.Exit.{yes}
use denote.Plain.{uint_vals, uint_Tells}
use denote.RattleType.{owns}
use denote.RawPtr.{block_ptr}
use denote.Ref.{shr_vals}
use denote.Signature.{plain, types_at}
use denote.Steps.{heard, nothing}
use denote.Triple.Call.{calls_at}
use denote.Triple.Table.{framed}
use denote.Triple.Walked.{Stays, walk_of, stay_dropped, Goes-dropped, ends_at}
use Rattle.test_support.proofs.Handle.{args, self, inner_at, requests_at, requests_seen, inner_seen, fields_seen}
use Rattle.test_support.proofs.Refusal as refusal
use Rattle.test_support.proofs.refusing.is_refused.Met as is_refused
use Rattle.test_support.specs.contracts.refusing.RefusingAllocator.allocate as f
use Rattle.test_support.proofs.refusing.RefusingAllocator.allocate.Statement.{statement}
use Rattle.test_support.proofs.refusing.RefusingAllocator.allocate.Code as code

pub allocate_spec : {M : Type 1} → statement M
allocate_spec 𝓤 𝓛 𝓜 𝓡 wired B laws g d drops met _ =
    let Z : Al = record { row = B; laws = laws; g = g; d = d; drops = drops } in
    let T = f.ended B g d drops in let c = f.clauses B g d drops 𝓛 𝓜.mem 𝓡.returns in
    let number = stay_dropped (plain (λ _. usize)) yes in
    let stayed : Stays T.signature.params T.kept = (stay_dropped (self Z) yes, (number, (number, tt))) in
    let W = walk_of 𝓛 T stayed c in let 𝓣 = tables 𝓤 𝓛.H 𝓜 𝓡 𝓡.env in
    let number_goes = Goes-dropped 𝓛 2 (plain (λ _. usize)) yes (λ κs x w. refl) in
    let here : Fn = inst_fn (args Z) code.function in
    proved 𝓛 T stayed c 𝓜 𝓡 (Goes-dropped 𝓛 2 (self Z) yes (λ κs x w. refl), (number_goes, (number_goes, tt)))
    (f.Key.name (args Z)) here (code.unfolded 𝓤 𝓛.H 𝓜 𝓡 wired (B, tt) d drops)
    (λ κs. (shr_vals, (uint_vals w64, (uint_vals w64, tt))))
    (λ κs. ((λ r vs s. s.0), (uint_Tells w64, (uint_Tells w64, tt))))
    (λ κs qs bounds a τ are.
    let κ₁ = κs.0 in let κ₂ = κs.1.0 in let q₁ = qs.0 in let q₂ = qs.1.0 in
    let place = a.0.ref_ptr in let heap = a.0.now.inner in let bytes = a.1.0 in let alignment = a.1.1.0 in
    let bytes_fit = are.1.0.1 in let alignment_fits = are.1.1.0.1 in
    let inner : ℕ × ℕ = (place.0, place.1 + inner_at Z) in
    let cell : ℕ × ℕ = (place.0, place.1 + requests_at Z) in
    let y : W.Ghost = ((κs, qs, bounds, a, (shr_vals a.0, (vint w64 bytes ∷ [], (vint w64 alignment ∷ [], tt)))), τ) in
    let Counts = refusal.Counts 𝓛 𝓜.mem 𝓡.returns κ₁ q₁ cell bytes in
    let counts = refusal.call 𝓛 𝓜.mem 𝓡.returns κ₁ q₁ cell bytes in
    let Asks = Takes Z 𝓛 𝓜.mem 𝓡.returns in
    let asks = at_takes Z 𝓛 𝓜.mem 𝓡.returns κ₁ q₁ inner heap bytes alignment τ in
    -- each of the three returns, with the block, if there is one, and the tokens
    let ends : (is_ok : Bool) (b o : ℕ) (x : Answer.Denot)
    → ent 𝓤 (emp 𝓤) (sem 𝓛 (Answer.own_val x (answer_val is_ok b o ∷ [])))
    → Sq 𝓛 (‵ (block_if_ok (token Z heap) τ x) ∷ ‵ (flft κ₁ q₁) ∷ (‵ (flft κ₂ q₂) ⊛ ‵ ftrue) ∷ [])
    (prop (W.post y (answer_val is_ok b o))) = λ is_ok b o x made.
    suffices ! _ (ends_at 𝓛 T stayed c y (answer_val is_ok b o) x (tt, (tt, (tt, tt))) (tt, (tt, (tt, tt)))) $
    use0 𝓛 (‵ (Answer.own_val x (answer_val is_ok b o ∷ []))) made $
    nothing ! $ nothing ! $ fjoin ! $ nothing ! $ fjoin ! $ nothing ! $ fjoin ! $ join ! $
    move ! (2 ∷ 3 ∷ []) $ join ! $ join ! $ done ! in
    qed 𝓛 (((‵ (flft κ₁ q₁) ⊛ ‵ (flft κ₂ q₂) ⊛ ‵ ftrue) ⊛ ‵ (owns (types_at T.signature.params κs) a y.0.4))
    ∷ (raw (fact 𝓤 (κ₂ ⊑ B.lives)) ⊛ raw (fact 𝓤 (HasLayout τ bytes alignment))) ∷ []) ∵
    move ! (1 ∷ []) $ split ! $ heard ! (κ₂ ⊑ B.lives) (λ lives. heard ! (HasLayout τ bytes alignment) (λ fits.
    split ! $ split ! $ move ! (2 ∷ []) $ fsplit ! $ fsplit ! $ move ! (1 ∷ []) $
    use1 𝓛 (‵ (requests_seen Z κ₁ a.0.now place) ⊛ ‵ (inner_seen Z κ₁ a.0.now place))
    (fields_seen Z κ₁ a.0.now place 𝓛) $ split ! $ keep ! (0 ∷ 4 ∷ 1 ∷ 5 ∷ []) $
    -- [the cell; the token of κ₁; the inner allocator; the token of κ₂]
    enter ! _ _ _ _ _ $ alloc_all ! (λ l.
    pass_all ! refl ((tt, tt), ((tt, record { fits = bytes_fit }), ((tt, record { fits = alignment_fits }), tt))) $
    sets ! (addr ! (through ! refl (fld ! refl (stop !)))) refl (tt, tt) $
    use2 𝓛 (raw (Counts.pre counts)) (refusal.handed 𝓛 𝓜.mem 𝓡.returns κ₁ q₁ cell bytes bytes_fit) $
    calls_at ! (framed 𝓤 𝓛.H 𝓜 𝓣) Counts
    (is_refused.met 𝓤 𝓛 𝓜 𝓡 (code.calls-test_support::refusing::is_refused 𝓡.env wired)) counts
    (and_then ! (get ! refl) (and_then ! (get ! refl) (no_more !))) (λ u.
    use1 𝓛 (later (some (λ (is_last : Bool). given (u ≡ vbool is_last) (‵ (flft κ₁ q₁)))))
    (refusal.left 𝓛 𝓜.mem 𝓡.returns κ₁ q₁ cell bytes u) $
    await ! tt $ pick ! (λ is_last. learn ! (λ is_bool. lands_as ! is_bool refl (tt, tt) $ move ! (1 ∷ 0 ∷ []) $
    -- [the inner allocator; the token of κ₁; the token of κ₂]
    first ! $ branches ! (get ! refl)
    (λ refused. sets ! (agg ! (no_more !)) refl (tt, tt) $
    sets ! (agg ! (and_then ! (lit ! tt) (and_then ! (get ! refl) (no_more !)))) refl (Answer-typed false 0 0) $
    returns_within ! (W.post y) refl (look_at ! 0 refl) $ free_all ! refl $
    keep ! (1 ∷ 2 ∷ []) $ nothing ! $ ends false 0 0 (Err (record {})) (Answer-err 𝓛))
    (λ served. skips ! $
    exec ! 𝓣.C 𝓣.Λ (env here.locals l) (after 3 here.body) (at_ret (env here.locals l) (W.post y)) $
    sets ! (addr ! (through ! refl (fld ! refl (stop !)))) refl (tt, tt) $
    use2 𝓛 (raw (Asks.pre asks)) (Takes-goes Z 𝓛 𝓜.mem 𝓡.returns κ₁ q₁ inner heap
    (⊑_trans κ₁ κ₂ B.lives bounds.0 lives) bytes alignment τ fits.0 fits.1 bytes_fit alignment_fits) $
    calls_at ! (framed 𝓤 𝓛.H 𝓜 𝓣) Asks (met.allocate drops) asks
    (and_then ! (get ! refl) (and_then ! (get ! refl) (and_then ! (get ! refl) (no_more !)))) (λ v.
    use1 𝓛 (later (raw (Answered Z 𝓛 𝓜.mem 𝓡.returns heap τ v) ⊛ ‵ (flft κ₁ q₁)))
    (Takes-gives Z 𝓛 𝓜.mem 𝓡.returns κ₁ q₁ inner heap bytes alignment τ v) $
    await ! tt $ split ! $ answers Z ! 𝓜.mem 𝓡.returns heap τ v
    (λ b o is_block. fjoin ! $ lands_as ! is_block refl (Answer-typed true b o) $
    returns ! (look_at ! 0 refl) $ free_all ! refl $ ends true b o (Ok (block_ptr b o)) (Answer-Ok 𝓛 b o))
    (λ is_none. nothing ! $ lands_as ! is_none refl (Answer-typed false 0 0) $
    returns ! (look_at ! 0 refl) $ free_all ! refl $ ends false 0 0 (Err (record {})) (Answer-err 𝓛)))))))))))
