use Rattle.hesc_core.proofs.ElementWords.{style}
use Rattle.hesc_decode.proofs.Families.{body_to_vec, by_family}
use Rattle.hesc_decode.proofs.bodies.decode_style_to_vec.Statement.{statement}
use Rattle.hesc_decode.proofs.bodies.decode_style_to_vec.Code as code

pub decode_style_to_vec_spec : {M : Type 1} → statement M
decode_style_to_vec_spec 𝓤 𝓛 𝓜 𝓡 wired A L alloc d dd met md =
    by_family body_to_vec style 𝓤 𝓛 𝓜 𝓡 A L alloc d dd met md code.function (code.unfolded 𝓤 𝓛.H 𝓜 𝓡 wired (A, tt) d dd) (code.calls-hesc_decode::appends::decode_body_onto_vec 𝓡.env wired)
