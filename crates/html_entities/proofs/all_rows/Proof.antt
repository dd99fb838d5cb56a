use Rattle.std.proofs.Common.{zero, [], ◌∷◌, refl}
use Rattle.std.proofs.raw_atomic.Walks.{proved}
use mir.Val.{vptr}
use types.Kit.{‵, raw, some, later, ◌$◌, ◌∵◌, !, qed, done, move, drop, use1, pick, await, suffices}
use types.Run.{enter, returns, statics}
use types.ByLocal.{alloc_all, pass_all, free_all, look_at, lands_as}
use denote.Array.{Array}
use denote.Ref.{ShrRef}
use denote.Steps.{nothing}
use denote.Triple.Entry.{on_entry}
use denote.Triple.Walked.{walk_of, says, ends_at}
use mir.Syntax.{static}
use borrow.Rule.StaticParts.{EachNames, const_wt, each_val, pointing}
use Rattle.html_entities.specs.contracts.all_rows as f
use Rattle.html_entities.proofs.StaticRows.{Row, block_type, rows_lent, values}
use Rattle.html_entities.proofs.RowPlaces.{texts}
use Rattle.html_entities.proofs.Block.{all_texts, are_named, block, bytes, count, fit, numbers, rs, same, table, typed}
use Rattle.html_entities.proofs.all_rows.Statement.{statement}
use Rattle.html_entities.proofs.all_rows.Code as code

pub all_rows_spec : {M : Type 1} → statement M
all_rows_spec 𝓤 𝓛 𝓜 𝓡 wired =
    let c = f.clauses 𝓛 𝓜.mem 𝓡.returns in let W = walk_of 𝓛 f.ended tt c in
    proved 𝓛 f.ended tt c 𝓜 𝓡 tt f.Key.name code.function (code.unfolded 𝓤 𝓛.H 𝓜 𝓡 wired)
    (λ κs. tt) (λ κs. tt) (λ κs qs bounds a n are.
    let y : W.Ghost = ((κs, qs, bounds, a, tt), n) in
    qed 𝓛 (raw (on_entry 𝓛 f.signature κs qs a tt) ∷ raw ((c κs a).requires n) ∷ []) ∵
    enter ! _ _ _ _ _ $ alloc_all ! (λ l. pass_all ! refl tt $
    statics ! {τ = block_type 2125 texts rs} {c = block} (λ b. (typed b, const_wt b block numbers)) (λ b s.
    use1 𝓛 (later (some (λ (ns : EachNames Row (values 2125 texts rs b)). ‵ ((ShrRef static [] (Array Row 2125)).own_val (pointing b zero (each_val Row (values 2125 texts rs b) ns)) (vptr b zero ∷ [])))))
    (rows_lent 𝓛 2125 texts rs table refl refl same count 4374 all_texts bytes fit b s) $ await ! tt $ pick ! (λ ns.
    lands_as ! refl refl (tt, tt) $ returns ! (look_at ! 0 refl) $ free_all ! refl $
    suffices ! _ (ends_at 𝓛 f.ended tt c y (vptr b zero) (pointing b zero (each_val Row (values 2125 texts rs b) ns)) tt tt) $
    move ! (1 ∷ []) $ drop ! $ move ! (1 ∷ []) $ drop ! $
    says ! (are_named b ns) $ nothing ! $ nothing ! $ done !))))
