use Rattle.std.proofs.Common.{ap, subst, ◌∙◌}
use Rattle.html_view.specs.Nodes.{written}
use Rattle.html_view.specs.Reading.{partials_of}
use Rattle.html_view.specs.Spelled.{IsSpelled}
use Rattle.html_view.specs.Views.{nodes_in}
use Rattle.hesc_views.proofs.steps.view_of.Goals as goal

-- the nodes of the view are those of its text and of the partials by their paths
pub returns-in-Ok-clause-made : goal.returns-in-Ok-clause-made
returns-in-Ok-clause-made g c = record {
  source = subst (λ partials. IsSpelled partials c.args.texts.view.now (written (nodes_in c.in-Ok.view)))
      (ap partials_of c.as_slice.ensures.value ∙ c.in_ok-partials.ensures) c.in-Ok.ensures.nodes;
  sound = c.in-Ok.view.sound;
}
