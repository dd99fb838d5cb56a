use Rattle.hesc_core.proofs.ClassWords.{quoted_attribute}
use Rattle.hesc_encode.proofs.Families.{by_family, to_string}
use Rattle.hesc_encode.proofs.html.encode_quoted_attribute_to_string.Statement.{statement}
use Rattle.hesc_encode.proofs.html.encode_quoted_attribute_to_string.Code as code

pub encode_quoted_attribute_to_string_spec : {M : Type 1} → statement M
encode_quoted_attribute_to_string_spec 𝓤 𝓛 𝓜 𝓡 wired A L alloc d dd met md =
    by_family to_string quoted_attribute 𝓤 𝓛 𝓜 𝓡 A L alloc d dd met md code.function (code.unfolded 𝓤 𝓛.H 𝓜 𝓡 wired (A, tt) d dd) (code.calls-hesc_encode::appends::encode_onto_string 𝓡.env wired)
