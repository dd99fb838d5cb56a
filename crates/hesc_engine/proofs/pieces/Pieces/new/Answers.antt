use Rattle.std.proofs.Common.{◌∙◌}
use Rattle.std.proofs.lemmas.Str.{IsCharBoundary-start}
use Rattle.hesc_specs.proofs.Text.Parts.{parts-joined, parts-few}
use Rattle.hesc_engine.proofs.pieces.Pieces.new.Goals as goal

pub invariant_of-result : goal.invariant_of-result
invariant_of-result g c = record {
  boundary = IsCharBoundary-start _ c.utf8.text;
  known = c.nothing.ensures (g.R.Rule.is_sought c.args.rule.now);
}

pub returns-clause-joined : goal.returns-clause-joined
returns-clause-joined g c = parts-joined c.args.text.now 0 (g.R.Rule.changes_from c.args.rule.now c.args.text.now 0) ∙ g.met.R.Rule.makes c.args.rule.now c.args.text.now c.utf8.text

pub returns-clause-few : goal.returns-clause-few
returns-clause-few g c = parts-few c.args.text.now 0 (g.R.Rule.changes_from c.args.rule.now c.args.text.now 0)
