-- What a body encoder is of, what it holds back, and what it adds.
use Rattle.std.specs.Prelude.{◌≡◌, ℕ, List, [], ◌++◌}
use Rattle.hesc_specs.specs.Bodies.Sessions.{IsStep, decided_encoding}
use Rattle.hesc_specs.specs.declared.elements.Element.{Element}
use Rattle.html_escape.specs.Held.{carry_bytes}
use Rattle.html_escape.specs.declared.body_encoder.session.BodyEncoder.{BodyEncoder}

-- the element whose body is encoded
abbrev pub kind_of : BodyEncoder → Element
kind_of session = session.kind

-- the bytes that are held back
abbrev pub held_by : BodyEncoder → List ℕ
held_by session = carry_bytes session.held

-- what is added with a piece: what is decided of the held bytes and the piece
abbrev pub added_with : BodyEncoder → List ℕ → List ℕ
added_with session piece = decided_encoding (kind_of session) (held_by session ++ piece)

-- the session is of this element; since it held nothing it was given some bytes and added others, in all one step: whatever follows, nothing is lost of the encoding
pub record HasEncoded (session : BodyEncoder) (element : Element) (given added : List ℕ) : Type 0 where
  pub kind : kind_of session ≡ element
  pub step : IsStep element [] given (held_by session) added
