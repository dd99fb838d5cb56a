-- The inner allocator takes the block back.
use Rattle.std.proofs.Common.{◌≡◌, ℕ, ◌+◌, List, [], ◌∷◌, refl, w64}
use Rattle.std.proofs.raw_atomic.Walks.{proved}
use Rattle.std.proofs.alloc.Calls.{Al, token, Gives, at_gives, Gives-goes, Gives-Gives}
use Rattle.std.specs.Allocator.{HasLayout, owned_block}
use mir.MapTy.{inst_fn}
use mir.Syntax.{Fn}
use mir.Val.{Val, vunit, vint, vptr}
use prog.Wp.{WpFn}
use base.Logic.{fst∗, never}
use base.Fml.{Fml, ftrue, flft}
use contract.BorrowLft.{◌⊑◌, ⊑_trans}
use contract.Monad.{fact}
use contract.Running.{tables}
use types.Logic.{sem}
use types.Kit.{‵, raw, ◌⊛◌, later, given, prop, ◌$◌, ◌∵◌, !, qed, done, move, keep, use1, split, split3, join}
use types.Kit.{fsplit, fjoin, feq_i, learn, await, regoal, suffices, group}
use types.Run.{enter, of_opd, unit_lit, addr, stop, fld, no_more, and_then, returns}
use types.ByLocal.{alloc_all, pass_all, free_all, look_at, get, through, sets, lands_as}
use denote.Builtin.{usize, RawPtr}
use denote.Exit.{yes}
use denote.Plain.{uint_vals, uint_Tells}
use denote.RattleType.{owns}
use denote.RawPtr.{Ptr, null_ptr, ptr_val, in_a_block, rawptr_vals, rawptr_Tells}
use denote.Ref.{shr_vals}
use denote.Signature.{plain, types_at}
use denote.Steps.{heard, nothing}
use denote.Triple.Call.{calls_at}
use denote.Triple.Table.{framed}
use denote.Triple.Walked.{Stays, walk_of, stay_dropped, Goes-dropped, ends_at}
use Rattle.test_support.proofs.Handle.{args, self, inner_at, requests_seen, inner_seen, fields_seen}
use Rattle.test_support.specs.contracts.refusing.RefusingAllocator.deallocate as f
use Rattle.test_support.proofs.refusing.RefusingAllocator.deallocate.Statement.{statement}
use Rattle.test_support.proofs.refusing.RefusingAllocator.deallocate.Code as code

pub deallocate_spec : {M : Type 1} → statement M
deallocate_spec 𝓤 𝓛 𝓜 𝓡 wired B laws g d drops met _ =
    let Z : Al = record { row = B; laws = laws; g = g; d = d; drops = drops } in
    let T = f.ended B g d drops in let c = f.clauses B g d drops 𝓛 𝓜.mem 𝓡.returns in
    let pointer = stay_dropped (plain (λ _. RawPtr)) yes in let number = stay_dropped (plain (λ _. usize)) yes in
    let stayed : Stays T.signature.params T.kept = (stay_dropped (self Z) yes, (pointer, (number, (number, tt)))) in
    let W = walk_of 𝓛 T stayed c in let 𝓣 = tables 𝓤 𝓛.H 𝓜 𝓡 𝓡.env in
    let pointer_goes = Goes-dropped 𝓛 2 (plain (λ _. RawPtr)) yes (λ κs x w. refl) in
    let number_goes = Goes-dropped 𝓛 2 (plain (λ _. usize)) yes (λ κs x w. refl) in
    let here : Fn = inst_fn (args Z) code.function in
    proved 𝓛 T stayed c 𝓜 𝓡
    (Goes-dropped 𝓛 2 (self Z) yes (λ κs x w. refl), (pointer_goes, (number_goes, (number_goes, tt))))
    (f.Key.name (args Z)) here (code.unfolded 𝓤 𝓛.H 𝓜 𝓡 wired (B, tt) d drops)
    (λ κs. (shr_vals, (rawptr_vals, (uint_vals w64, (uint_vals w64, tt)))))
    (λ κs. ((λ r vs s. s.0), (rawptr_Tells, (uint_Tells w64, (uint_Tells w64, tt)))))
    (λ κs qs bounds a τ are.
    let κ₁ = κs.0 in let κ₂ = κs.1.0 in let q₁ = qs.0 in let q₂ = qs.1.0 in
    let place = a.0.ref_ptr in let heap = a.0.now.inner in let bytes = a.1.1.0 in let alignment = a.1.1.1.0 in
    let bytes_fit = are.1.1.0.1 in let alignment_fits = are.1.1.1.0.1 in
    let inner : ℕ × ℕ = (place.0, place.1 + inner_at Z) in
    let numbers : List Val = vint w64 bytes ∷ vint w64 alignment ∷ [] in
    let y : W.Ghost = (
      (
        κs,
        qs,
        bounds,
        a,
        (shr_vals a.0, (rawptr_vals a.1.0, (vint w64 bytes ∷ [], (vint w64 alignment ∷ [], tt)))),
      ),
      τ,
    ) in
    let Frees = Gives Z 𝓛 𝓜.mem 𝓡.returns in
    let block : Ptr → Fml = owned_block (token Z heap) τ in
    qed 𝓛 (((‵ (flft κ₁ q₁) ⊛ ‵ (flft κ₂ q₂) ⊛ ‵ ftrue) ⊛ ‵ (owns (types_at T.signature.params κs) a y.0.4))
    ∷ (raw (fact 𝓤 (κ₂ ⊑ B.lives)) ⊛ raw (fact 𝓤 (HasLayout τ bytes alignment)) ⊛ ‵ (block a.1.0)) ∷ []) ∵
    move ! (1 ∷ []) $ split3 ! $ heard ! (κ₂ ⊑ B.lives) (λ lives. heard ! (HasLayout τ bytes alignment) (λ fits.
    in_a_block ! a.1.0 block (fst∗ 𝓤 (never 𝓤) (sem 𝓛 (token Z heap τ null_ptr))) (λ b o is_block. fsplit ! $
    move ! (2 ∷ []) $ split ! $ split ! $ move ! (2 ∷ []) $ fsplit ! $ fsplit ! $ move ! (1 ∷ []) $
    use1 𝓛 (‵ (requests_seen Z κ₁ a.0.now place) ⊛ ‵ (inner_seen Z κ₁ a.0.now place))
    (fields_seen Z κ₁ a.0.now place 𝓛) $ split ! $ keep ! (6 ∷ 7 ∷ 1 ∷ 4 ∷ 5 ∷ []) $
    -- [the room; the right to free it; the inner allocator; the token of κ₁; the token of κ₂]
    regoal ! (λ (p : Ptr).
    prop (WpFn 𝓤 𝓛.H 𝓣.C 𝓣.Λ here (vptr place.0 place.1 ∷ ptr_val p ∷ numbers) (W.post y))) is_block refl $
    enter ! _ _ _ _ _ $ alloc_all ! (λ l. pass_all ! refl
    ((tt, tt), ((tt, tt), ((tt, record { fits = bytes_fit }), ((tt, record { fits = alignment_fits }), tt)))) $
    sets ! (addr ! (through ! refl (fld ! refl (stop !)))) refl (tt, tt) $
    let frees = at_gives Z 𝓛 𝓜.mem 𝓡.returns κ₁ q₁ inner heap b o bytes alignment τ in
    group ! 4 $ use1 𝓛 (raw (Frees.pre frees)) (Gives-goes Z 𝓛 𝓜.mem 𝓡.returns κ₁ q₁ inner heap
    (⊑_trans κ₁ κ₂ B.lives bounds.0 lives) b o bytes alignment τ fits.0 fits.1 bytes_fit alignment_fits) $
    calls_at ! (framed 𝓤 𝓛.H 𝓜 𝓣) Frees (met.deallocate drops) frees
    (and_then ! (get ! refl) (and_then ! (get ! refl) (and_then ! (get ! refl) (and_then ! (get ! refl) (no_more !))))) (λ v.
    use1 𝓛 (later (given (v ≡ vunit) (‵ (flft κ₁ q₁))))
    (Gives-Gives Z 𝓛 𝓜.mem 𝓡.returns κ₁ q₁ inner heap b o bytes alignment τ v) $
    await ! tt $ learn ! (λ is_unit. lands_as ! is_unit refl (tt, tt) $
    sets ! (of_opd ! (unit_lit !)) refl (tt, tt) $ returns ! (look_at ! 0 refl) $ free_all ! refl $
    suffices ! _ (ends_at 𝓛 T stayed c y vunit tt (tt, (tt, (tt, (tt, tt)))) (tt, (tt, (tt, (tt, tt))))) $
    nothing ! $ feq_i ! (List Val) (vunit ∷ []) _ refl $
    nothing ! $ nothing ! $ fjoin ! $ nothing ! $ fjoin ! $ nothing ! $ fjoin ! $ nothing ! $ fjoin ! $ join ! $
    move ! (2 ∷ 3 ∷ []) $ join ! $ join ! $ done !)))))))
