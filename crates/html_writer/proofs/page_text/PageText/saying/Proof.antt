-- `saying` makes a value of no bytes, whose ghost fields are what the caller picks.
use Rattle.std.proofs.Common.{[], ◌∷◌, refl}
use Rattle.std.proofs.raw_atomic.Walks.{proved}
use base.Fml.{Fml}
use mir.Val.{Val, vstruct, vcons, vnil}
use types.Kit.{‵, raw, ◌⊛◌, move, fjoin, ◌$◌, ◌∵◌, !, qed, keep, join, use0, suffices, done, split}
use types.Run.{no_more, and_then, returns, enter}
use types.Part.{agg}
use types.ByLocal.{alloc_all, pass_all, free_all, look_at, get, sets}
use denote.Shadow.{makes_shadow}
use denote.Exit.{yes}
use denote.Builtin.{RefOf, SliceRefOf, u8}
use denote.Ref.{shr_vals, shr_Tells}
use denote.Slice.{shr_slice_vals, shr_slice_Tells}
use denote.Signature.{type_at, plain, name_of, meet_at}
use denote.Steps.{nothing}
use denote.Triple.Entry.{alive, Res}
use denote.RattleType.{owns}
use denote.Signature.{types_at}
use denote.Triple.Walked.{Stays, stay_dropped, Goes-dropped, walk_of, says, ends_at}
use Rattle.html_writer.specs.contracts.page_text.PageText as page
use Rattle.html_escape.specs.contracts.encoder.Encoder as encoder
use Rattle.html_writer.specs.contracts.page_text.PageText.saying as f
use Rattle.html_writer.proofs.page_text.PageText.saying.Statement.{statement}
use Rattle.html_writer.proofs.page_text.PageText.saying.Code as code

abbrev stayed : Stays f.ended.signature.params f.ended.kept
stayed = (stay_dropped _ yes, (stay_dropped _ yes, (stay_dropped _ yes, tt)))

pub saying_spec : {M : Type 1} → statement M
saying_spec 𝓤 𝓛 𝓜 𝓡 wired =
    let c = f.clauses 𝓛 𝓜.mem 𝓡.returns in let W = walk_of 𝓛 f.ended stayed c in
    proved 𝓛 f.ended stayed c 𝓜 𝓡
    (Goes-dropped 𝓛 3 (RefOf (0 ∷ []) tt (plain (λ _. page.the_row)) (λ _. tt)) yes (λ κs x w. refl), (Goes-dropped 𝓛 3 (RefOf (1 ∷ []) tt (plain (λ _. encoder.the_row)) (λ _. tt)) yes (λ κs x w. refl), (Goes-dropped 𝓛 3 (SliceRefOf (2 ∷ []) tt (plain (λ _. u8)) (λ _. tt)) yes (λ κs x w. refl), tt)))
    f.Key.name code.function (code.unfolded 𝓤 𝓛.H 𝓜 𝓡 wired)
    (λ κs. (shr_vals, (shr_vals, (shr_slice_vals, tt)))) (λ κs. (shr_Tells (name_of (0 ∷ [])) (meet_at 3 (0 ∷ []) tt κs) page.the_row, (shr_Tells (name_of (1 ∷ [])) (meet_at 3 (1 ∷ []) tt κs) encoder.the_row, (shr_slice_Tells (name_of (2 ∷ [])) (meet_at 3 (2 ∷ []) tt κs) u8, tt)))) (λ κs qs bounds a n are.
    let y : W.Ghost = ((κs, qs, bounds, a, (shr_vals a.0, (shr_vals a.1.0, (shr_slice_vals a.1.1.0, tt)))), n) in
    let v : Val = vstruct (vcons (vstruct vnil) vnil) in
    let r : Res f.ended.signature κs = record { marker = record {}; text = n } in
    let O : Fml = (type_at f.ended.signature.result κs).own_val r (v ∷ []) in
    qed 𝓛 ((raw (alive 𝓛 f.ended.signature κs qs) ⊛ ‵ (owns (types_at f.ended.signature.params κs) a y.0.4)) ∷ raw ((c κs a).requires n) ∷ []) ∵ split ! $ keep ! (0 ∷ []) $
    enter ! _ _ _ _ _ $ alloc_all ! (λ l. pass_all ! refl ((tt, tt), ((tt, tt), ((tt, (tt, (record { fits = are.1.1.0.0.1.0 }, tt))), tt))) $
    sets ! (agg ! (no_more !)) refl (tt, tt) $ sets ! (agg ! (and_then ! (get ! refl) (no_more !))) refl (tt, (tt, tt)) $
    returns ! (look_at ! 0 refl) $ free_all ! refl $
    use0 𝓛 (‵ O) (makes_shadow 𝓛 O ((λ vss. (tt, ((λ uss. (tt, tt)), tt))), tt) (((vstruct vnil ∷ [], tt), (refl, ((tt, (refl, tt)), tt))), tt)) $
    suffices ! _ (ends_at 𝓛 f.ended stayed c y v r (tt, (tt, (tt, tt))) (tt, (tt, (tt, tt)))) $ says ! refl $
    nothing ! $ nothing ! $ fjoin ! $ nothing ! $ fjoin ! $ nothing ! $ fjoin ! $ join ! $ move ! (1 ∷ 0 ∷ []) $ join ! $ done !))
