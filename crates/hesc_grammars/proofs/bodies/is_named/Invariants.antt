use Rattle.std.proofs.Common.{◌≡◌, ◌≤◌, length, drop}
use Rattle.hesc_specs.specs.Text.Elements.{element_name}
use Rattle.hesc_grammars.specs.Words.{ends_tag_name}
use Rattle.hesc_specs.specs.Text.Words.{begins_in_any_case}
use Rattle.hesc_grammars.proofs.bodies.is_named.Given as goal

-- the letters so far stand in the tag, so the rest of the name decides
abbrev pub invariant-loop-i : goal.invariant-loop-i
invariant-loop-i l = record {
  within : l.i ≤ length l.tag;
  same : begins_in_any_case (element_name l.fn.element) ends_tag_name l.tag ≡ begins_in_any_case (drop l.i l.name) ends_tag_name (drop l.i l.tag);
}
