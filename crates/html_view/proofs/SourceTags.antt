-- A tag, as it is cut.
use Rattle.std.proofs.Common.{ℕ, ◌≡◌, List, ◌++◌, take, drop, sym, ap, ◌∙◌}
use Rattle.std.specs.Str.{IsTrim, IsTrimStart}
use Rattle.std.proofs.lemmas.List.{take-append-drop}
use Rattle.html_view.specs.Tags.{IsNameOf, IsTag, sign_text}
use Rattle.html_view.specs.declared.source.tag.Sign.{Sign}

pub is_tag : (sign : Sign) (name inside text rest : List ℕ) → IsTrimStart inside text → text ≡ sign_text sign ++ rest → IsTrim rest name
    → IsNameOf sign name → IsTag sign name inside
is_tag sign name inside text rest starts signed trimmed named =
    let n : ℕ = starts.0 in
    let m : ℕ = trimmed.0 in
    let k : ℕ = trimmed.1 in
    let inner : rest ≡ take m rest ++ (name ++ drop k (drop m rest)) =
    sym (take-append-drop m rest)
    ∙ ap (λ x. take m rest ++ x) (sym (take-append-drop k (drop m rest)) ∙ ap (λ x. x ++ drop k (drop m rest)) (sym trimmed.2)) in
    record {
      before = take n inside;
      between = take m rest;
      behind = drop k (drop m rest);
      whole = sym (take-append-drop n inside) ∙ ap (λ x. take n inside ++ x) (sym starts.1 ∙ signed ∙ ap (λ x. sign_text sign ++ x) inner);
      before_is = starts.2;
      between_is = trimmed.3;
      behind_is = trimmed.4;
      named = named;
    }
