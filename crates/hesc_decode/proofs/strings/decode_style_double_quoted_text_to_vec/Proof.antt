use Rattle.hesc_core.proofs.ClassWords.{style_double_quoted}
use Rattle.hesc_decode.proofs.Families.{by_family, to_vec}
use Rattle.hesc_decode.proofs.strings.decode_style_double_quoted_text_to_vec.Statement.{statement}
use Rattle.hesc_decode.proofs.strings.decode_style_double_quoted_text_to_vec.Code as code

pub decode_style_double_quoted_text_to_vec_spec : {M : Type 1} → statement M
decode_style_double_quoted_text_to_vec_spec 𝓤 𝓛 𝓜 𝓡 wired A L alloc d dd met md =
    by_family to_vec style_double_quoted 𝓤 𝓛 𝓜 𝓡 A L alloc d dd met md code.function (code.unfolded 𝓤 𝓛.H 𝓜 𝓡 wired (A, tt) d dd) (code.calls-hesc_decode::appends::decode_onto_vec 𝓡.env wired)
