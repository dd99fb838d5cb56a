use Rattle.std.proofs.Common.{◌≡◌, ◌∙◌, List, ℕ, Option, None, Some, refl, ap}
use Rattle.std.specs.Borrow.{Bor}
use Rattle.std.specs.Option.{is_some, option_map}
use Rattle.hesc_specs.specs.References.Rows.{Row, value_of}
use Rattle.html_entities.specs.NamedReferences.{named_references}
use Rattle.html_tokenizer.specs.Tokenizer.Values.References.{named_characters}
use Rattle.html_tokenizer.proofs.values.references.is_named.Goals as goal

is_some-option_map : {A B : Type 0} (f : A → B) (found : Option A) → is_some found ≡ is_some (option_map f found)
is_some-option_map f None = refl
is_some-option_map f (Some x) = refl

value_of-named : (rows : List Row) (name : List ℕ) → rows ≡ named_references → value_of rows name ≡ named_characters name
unfolding named_characters
value_of-named rows name are = ap (λ x. value_of x name) are

pub returns : goal.returns
returns c =
    c.is_some.ensures ∙ is_some-option_map (λ (value : Bor (List ℕ)). value.now) c.get.result
    ∙ ap is_some (c.get.ensures ∙ value_of-named _ c.args.name.now c.html_entities.ensures.rows)
