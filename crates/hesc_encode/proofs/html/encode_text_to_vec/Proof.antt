use Rattle.hesc_core.proofs.ClassWords.{text}
use Rattle.hesc_encode.proofs.Families.{by_family, to_vec}
use Rattle.hesc_encode.proofs.html.encode_text_to_vec.Statement.{statement}
use Rattle.hesc_encode.proofs.html.encode_text_to_vec.Code as code

pub encode_text_to_vec_spec : {M : Type 1} → statement M
encode_text_to_vec_spec 𝓤 𝓛 𝓜 𝓡 wired A L alloc d dd met md =
    by_family to_vec text 𝓤 𝓛 𝓜 𝓡 A L alloc d dd met md code.function (code.unfolded 𝓤 𝓛.H 𝓜 𝓡 wired (A, tt) d dd) (code.calls-hesc_encode::appends::encode_onto_vec 𝓡.env wired)
