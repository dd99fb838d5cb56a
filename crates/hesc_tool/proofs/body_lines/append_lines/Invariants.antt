use Rattle.std.proofs.Common.{◌≡◌, ◌-◌, ◌++◌, length, drop}
use Rattle.std.specs.Str.{IsCharBoundary}
use Rattle.std.specs.String.{string_bytes}
use Rattle.hesc_specs.specs.Bodies.Encoding.{body_encoding}
use Rattle.html_escape.specs.BodyEncoders.{held_by, kind_of}
use Rattle.hesc_tool.proofs.body_lines.append_lines.Given as goal

-- what was added, and the encoding of what is held and what is left, are the encoding of the text
abbrev pub invariant-pushing : goal.invariant-pushing
invariant-pushing g l = record {
  boundary : IsCharBoundary l.text l.from;
  kind : kind_of l.session ≡ l.fn.kind;
  added : string_bytes l.output ++ body_encoding l.fn.kind (held_by l.session ++ drop l.from l.text) ≡ string_bytes l.initial.output ++ body_encoding l.fn.kind l.text;
}

abbrev pub decreases-pushing : goal.decreases-pushing
decreases-pushing g l = length l.text - l.from
