use Rattle.std.proofs.Common.{rules, Bor, ◌≡◌, ℕ, List, Err, inl, map, drop, string_bytes, ap, ◌∙◌, subst}
use Rattle.std.specs.Vec.Iter.{into_iter_items}
use Rattle.hesc_views.specs.Program.{EndsAs}
use Rattle.hesc_views.specs.Run.{RanAs}
use Rattle.hesc_views.specs.declared.faults.Fault.TheVariants.{Memory}
use Rattle.hesc_views.proofs.program.serve.Goals as goal

pub returns-in-Err : goal.returns-in-Err
returns-in-Err g c =
    let ended = rw c.without_words.ensures at c.end_at_once.ensures in
    rw c.in-Err.is (search rules, search rules, ended.status, ended.line)

-- memory ran out before there was a list of the words
pub returns-in_default : goal.returns-in_default
returns-in_default g c =
    let ended = c.end_at_once-in_default.ensures in
    rw c.in-Ok.is (Err Memory, search rules, (ended.status, inl ended.line))

pub returns-in_default-lent : goal.returns-in_default-lent
returns-in_default-lent g c =
    let ended = c.end_at_once-in_default-lent.ensures in
    rw c.in-Ok.is (Err Memory, search rules, (ended.status, inl ended.line))

pub returns : goal.returns
returns g c =
    let words : map (λ word. word.now) c.in-Ok-lent.words.items ≡ map string_bytes (drop 1 (into_iter_items c.in-Ok.args)) =
    c.in-Ok-lent.ensures ∙ ap (map string_bytes) c.as_slice.ensures.value ∙ ap (map string_bytes) c.in-Ok-words_after_name.ensures in
    let ran = subst
    (λ w. RanAs (λ path. g.S.Sources.bytes c.args.sources.now path) w (g.R.Read.remaining c.args.input.now)
    (g.R.Read.remaining c.run_and_flush-outcome.new.input) (g.W.Write.contents c.args.output.now) (g.W.Write.contents c.run_and_flush-outcome.new.output)
    c.run_and_flush-outcome.result)
    (ap (map (λ (word : Bor (List ℕ)). word.now)) c.as_slice-2.ensures.value ∙ words) c.run_and_flush-outcome.ensures in
    let ended = subst
    (λ w. EndsAs w c.run_and_flush-outcome.result (g.E.Write.contents c.args.errors.now) (g.E.Write.contents c.end.new.errors) c.end.result)
    (ap (map (λ (word : Bor (List ℕ)). word.now)) c.as_slice-3.ensures.value ∙ words) c.end.ensures in
    rw c.in-Ok.is (c.run_and_flush-outcome.result, ran, ended)
