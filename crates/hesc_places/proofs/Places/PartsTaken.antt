-- Parts that a sink took one after another are their text.
use Rattle.std.proofs.Common.{ℕ, ◌≡◌, List, ◌++◌, Result, Ok, Err, ap, ◌∙◌, append_assoc}
use Rattle.std.specs.Prelude.{OnOk}

pub three_parts : {T E : Type 0} (result : Result T E) (before one two all a b c : List ℕ) →
    one ≡ before ++ a → two ≡ one ++ b → OnOk result (all ≡ two ++ c) → OnOk result (all ≡ before ++ (a ++ (b ++ c)))
three_parts (Ok value) before one two all a b c first second third =
    third
    ∙ ap (λ taken. taken ++ c) (second ∙ ap (λ taken. taken ++ b) first)
    ∙ append_assoc (before ++ a) b c
    ∙ append_assoc before a (b ++ c)
three_parts (Err fault) before one two all a b c first second third = third

pub four_parts : {T E : Type 0} (result : Result T E) (before one two three all a b c d : List ℕ) →
    one ≡ before ++ a → two ≡ one ++ b → three ≡ two ++ c → OnOk result (all ≡ three ++ d) → OnOk result (all ≡ before ++ (a ++ (b ++ (c ++ d))))
four_parts {E = E} (Ok value) before one two three all a b c d first second third fourth =
    three_parts {E = E} (Ok value) before one two all a b (c ++ d) first second
    (fourth ∙ ap (λ taken. taken ++ d) third ∙ append_assoc two c d)
four_parts (Err fault) before one two three all a b c d first second third fourth = fourth
