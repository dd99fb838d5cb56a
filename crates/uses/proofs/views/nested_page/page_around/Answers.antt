use Rattle.std.proofs.Common.{Bor, rules, ◌≡◌, ◌++◌, ◌∷◌, [], ℕ, List, codes, ◌∙◌, ap, refl, subst, sym}
use Rattle.html_template.specs.Words.{IsPageOf, markup_of}
use Rattle.html_template.specs.declared.fragment.Fragment.{Fragment}
use Rattle.html_view.specs.Words.{datum_of, parts_of, rendered, unrolled_by}
use Rattle.html_view.specs.declared.data.Value as value
use Rattle.html_view.specs.declared.data.Value.{Value}
use Rattle.uses.specs.Views.NestedPages.{with_main}
use Rattle.uses.proofs.views.nested_page.page_around.Goals as goal

-- a record of one fragment
one_field : (fields : Bor (List (Bor (List ℕ) × Value))) (name : Bor (List ℕ)) (main : Fragment) → name.now ≡ codes "main" →
    fields.now ≡ (name, value.Fragment main) ∷ [] → datum_of (value.Record fields) ≡ with_main (markup_of main) main.whole
one_field fields name main named is = search (rules, value.the_lemmas, named, is)

pub returns : goal.returns
returns c =
    let made = c.in_ok-append.ensures.appended in
    record {
      whole = c.args.main.whole;
      found = made.0;
      told = ap (unrolled_by c.args.layout.now) (sym (one_field _ _ c.args.main refl refl)) ∙ made.1;
      is_page = subst (λ page. IsPageOf (parts_of made.0) made.0.texts page)
          (sym (made.2 ∙ ap (λ old. old ++ rendered made.0) c.new-page.ensures.bytes)) (c.in_ok-append.ensures.page.page made.0 made.1);
    }
