use Rattle.std.proofs.Common.{◌≡◌, ◌-◌, false, true, length, refl, sym, take, ◌∙◌, arith}
use Rattle.std.proofs.lemmas.List.{take_rest}
use Rattle.html_urls.proofs.Encoded.Lanes.{unreserved_ends}
use Rattle.html_urls.proofs.component.unreserved.is_unreserved_by_halves.Goals as goal

pub returns-then-not-is_unreserved_by_sixteen : goal.returns-then-not-is_unreserved_by_sixteen
returns-then-not-is_unreserved_by_sixteen c =
    let bytes = c.args.bytes.now in
    let ends = unreserved_ends bytes (take 32 bytes) _ 32 (length bytes - 32) (omega (arith, c.requires.both)) refl (take_rest bytes (length bytes - 32)) in
    (λ (no : false ≡ true). cc, λ kept. sym c.if-not-is_unreserved_by_sixteen.true ∙ c.is_unreserved_by_sixteen.ensures.1 (ends.1 kept).0)

pub returns : goal.returns
returns c =
    let bytes = c.args.bytes.now in
    let ends = unreserved_ends bytes (take 32 bytes) _ 32 (length bytes - 32) (omega (arith, c.requires.both)) refl (take_rest bytes (length bytes - 32)) in
    (λ is. ends.0 (c.is_unreserved_by_sixteen.ensures.0 c.if-not-is_unreserved_by_sixteen.false, c.is_unreserved_by_sixteen-2.ensures.0 is), λ kept. c.is_unreserved_by_sixteen-2.ensures.1 (ends.1 kept).1)
