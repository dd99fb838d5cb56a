-- The page of a view for a JSON text.
use Rattle.std.specs.Prelude.{◌≡◌, ⊤, ℕ, List, [], ◌∷◌, IsSomeAnd, Some, None, Result, Ok, Err, String, string_bytes}
use Rattle.html_template.specs.Structure.{IsPageOf}
use Rattle.html_view.specs.JsonData.{datum_of_json}
use Rattle.html_view.specs.Nodes.{Nodes, Placed}
use Rattle.html_view.specs.Rendered.{Unrolled, Unrolling, rendered, unrolled}
use Rattle.html_view.specs.Views.{parts_of}
use Rattle.html_view.specs.declared.faults.Position.{Position}
use Rattle.json.specs.Json.{Json, document}
use Rattle.json.specs.Strict.{HasUniqueKeys}
use Rattle.hesc_views.specs.Places.{spot_at}
use Rattle.hesc_views.specs.declared.faults.Fault.{Fault}
use Rattle.hesc_views.specs.declared.faults.Fault.TheVariants.{At, NotJson, RepeatedKey, Memory}
use Rattle.hesc_views.specs.declared.faults.Refusal.TheVariants.{Value}

-- the text that was made, or the fault
abbrev pub answer_of : {A : Type 0} → Result (String A) Fault → Result (List ℕ) Fault
answer_of (Ok text) = Ok (string_bytes text)
answer_of (Err fault) = Err fault

-- the text is this JSON, in which no object has a key twice
pub record IsStrictly (json : List ℕ) (value : Json) : Type 0 where
  pub text : document json ≡ Some value
  pub unique : HasUniqueKeys value

-- what the value makes of the nodes of a view
abbrev pub unrolled_for : Nodes Placed → Json → Unrolled
unrolled_for nodes value = unrolled nodes (datum_of_json value ∷ [])

-- the bytes are what the value makes of the nodes, and a page of the unrolling's template
pub record IsPageFor (nodes : Nodes Placed) (value : Json) (page : List ℕ) : Type 0 where
  pub found : Unrolling
  pub told : unrolled_for nodes value ≡ Ok found
  pub made : page ≡ rendered found
  pub full : IsPageOf (parts_of found) found.texts page

-- the page for a value, or the first fault of the data, whose place is in one of these texts
abbrev pub DataAnswers : Nodes Placed → List (List ℕ) → Json → Result (List ℕ) Fault → Type 0
DataAnswers nodes texts value (Ok page) = IsPageFor nodes value page
DataAnswers nodes texts value (Err (At spot (Value why))) =
    (position : Position) × (unrolled_for nodes value ≡ Err (position, why)) × (spot ≡ spot_at texts position)
DataAnswers nodes texts value (Err Memory) = ⊤
DataAnswers nodes texts value (Err other) = ⊥

-- the page for a JSON text, or the fault of the text, or that of its data
abbrev pub PageAnswers : Nodes Placed → List (List ℕ) → List ℕ → Result (List ℕ) Fault → Type 0
PageAnswers nodes texts json (Err NotJson) = document json ≡ None
PageAnswers nodes texts json (Err RepeatedKey) = IsSomeAnd (document json) (λ value. HasUniqueKeys value → ⊥)
PageAnswers nodes texts json (Err Memory) = ⊤
PageAnswers nodes texts json answer = (value : Json) × IsStrictly json value × DataAnswers nodes texts value answer
