-- What a session has encoded, with one piece more and with its end.
use Rattle.std.proofs.Common.{◌≡◌, ℕ, List, [], ◌++◌, ◌∙◌}
use Rattle.hesc_specs.specs.Bodies.Encoding.{body_encoding}
use Rattle.hesc_specs.specs.Bodies.Sessions.{IsStep}
use Rattle.hesc_specs.specs.declared.elements.Element.{Element}
use Rattle.hesc_specs.proofs.Bodies.Steps.{no_step, joined_steps, finished_steps}
use Rattle.html_escape.specs.BodyEncoders.{HasEncoded, held_by, kind_of}
use Rattle.html_escape.specs.declared.body_encoder.session.BodyEncoder.{BodyEncoder}

pub begun : (session : BodyEncoder) (element : Element) → kind_of session ≡ element → held_by session ≡ [] → HasEncoded session element [] []
begun session element kind nothing = record { kind = kind; step = rw nothing (no_step element) }

pub pushed_more : (old new : BodyEncoder) (element : Element) (given added piece part : List ℕ) → kind_of new ≡ kind_of old
    → IsStep (kind_of old) (held_by old) piece (held_by new) part → HasEncoded old element given added → HasEncoded new element (given ++ piece) (added ++ part)
pushed_more old new element given added piece part kept step before = record {
  kind = kept ∙ before.kind;
  step = joined_steps element [] given (held_by old) added piece (held_by new) part before.step (rw before.kind at step);
}

pub ended : (old : BodyEncoder) (element : Element) (given added : List ℕ) → HasEncoded old element given added
    → added ++ body_encoding (kind_of old) (held_by old) ≡ body_encoding element given
ended old element given added before = rw before.kind (finished_steps element given (held_by old) added before.step)
