use Rattle.hesc_core.proofs.ElementWords.{style}
use Rattle.hesc_encode.proofs.Families.{body_to_string, by_family}
use Rattle.hesc_encode.proofs.bodies.encode_style_to_string.Statement.{statement}
use Rattle.hesc_encode.proofs.bodies.encode_style_to_string.Code as code

pub encode_style_to_string_spec : {M : Type 1} → statement M
encode_style_to_string_spec 𝓤 𝓛 𝓜 𝓡 wired A L alloc d dd met md =
    by_family body_to_string style 𝓤 𝓛 𝓜 𝓡 A L alloc d dd met md code.function (code.unfolded 𝓤 𝓛.H 𝓜 𝓡 wired (A, tt) d dd) (code.calls-hesc_encode::appends::encode_body_onto_string 𝓡.env wired)
