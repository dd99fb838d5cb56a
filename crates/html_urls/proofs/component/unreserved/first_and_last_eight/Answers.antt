use Rattle.std.proofs.Common.{◌≡◌, ◌-◌, ℕ, List, ◌++◌, ap, ◌∙◌, arith, drop, length, length-append, length-take-le, take, take_all}
use Rattle.std.proofs.lemmas.List.{length-drop}
use Rattle.std.proofs.lemmas.Simd.{pick_l_whole}
use Rattle.html_urls.proofs.component.unreserved.first_and_last_eight.Goals as goal

pub returns : goal.returns
returns c =
    let bytes = c.args.bytes.now in
    let back : List ℕ = drop (length bytes - 8) bytes in
    let left = length-drop (length bytes - 8) bytes in
    let whole : take 8 back ≡ back = take_all 8 back (omega (arith, left)) in
    let long : length (take 8 bytes ++ take 8 back) ≡ 16 = omega (arith, length-append (take 8 bytes) (take 8 back), length-take-le 8 bytes c.requires, ap length whole, left, c.requires) in
    pick_l_whole 0 (take 8 bytes ++ take 8 back) 16 long ∙ ap (λ (l : List ℕ). take 8 bytes ++ l) whole
