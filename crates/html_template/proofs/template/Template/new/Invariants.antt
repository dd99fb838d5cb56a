use Rattle.std.proofs.Common.{◌≡◌, ◌≤◌, ◌-◌, length, map}
use Rattle.html_template.specs.TemplateFaults.{template_of, told_behind, walk_of}
use Rattle.html_template.specs.Templates.{chunk_of, given}
use Rattle.html_template.proofs.template.Template.new.Given as goal

abbrev pub invariant-parts : goal.invariant-parts
invariant-parts g l = record {
  told : told_behind (map chunk_of l.pieces.items) (length l.parts - length l.rest) (walk_of l.walk) (map given l.rest) ≡ template_of (map given l.parts);
  shorter : length l.rest ≤ length l.parts;
}

abbrev pub decreases-parts : goal.decreases-parts
decreases-parts g l = length l.rest
