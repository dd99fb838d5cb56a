-- The functions that the forms of a decoder hand on to, with a class or an element of their own.
use Rattle.std.proofs.Common.{refl}
use Rattle.hesc_engine.proofs.HandsOn.{string_form, vec_form}
use Rattle.hesc_core.proofs.ClassWords.{classes}
use Rattle.hesc_core.proofs.ElementWords.{elements}
use Rattle.hesc_core.proofs.HandsOnConstant.{Family}
pub use Rattle.hesc_core.proofs.HandsOnConstant.{by_family}
use Rattle.hesc_decode.specs.contracts.appends.decode_onto_string as string
use Rattle.hesc_decode.proofs.appends.decode_onto_string.Met as string_callee
use Rattle.hesc_decode.proofs.appends.decode_onto_string.Symbol as string_symbol
use Rattle.hesc_decode.specs.contracts.appends.decode_onto_vec as vec
use Rattle.hesc_decode.proofs.appends.decode_onto_vec.Met as vec_callee
use Rattle.hesc_decode.proofs.appends.decode_onto_vec.Symbol as vec_symbol
use Rattle.hesc_decode.specs.contracts.appends.decode_body_onto_string as body_string
use Rattle.hesc_decode.proofs.appends.decode_body_onto_string.Met as body_string_callee
use Rattle.hesc_decode.proofs.appends.decode_body_onto_string.Symbol as body_string_symbol
use Rattle.hesc_decode.specs.contracts.appends.decode_body_onto_vec as body_vec
use Rattle.hesc_decode.proofs.appends.decode_body_onto_vec.Met as body_vec_callee
use Rattle.hesc_decode.proofs.appends.decode_body_onto_vec.Symbol as body_vec_symbol

abbrev pub to_string : Family classes
to_string = record {
  form = string_form;
  back = λ A alloc κs r. r;
  again = λ A alloc κs r. refl;
  name = string.Key.name;
  code = string_symbol.code;
  clauses = λ {M} 𝓤 𝓛 𝓜 𝓡 A alloc d dd. string.clauses A alloc d dd 𝓛 𝓜.mem 𝓡.returns;
  met = string_callee.met;
}

abbrev pub to_vec : Family classes
to_vec = record {
  form = vec_form;
  back = λ A alloc κs r. r;
  again = λ A alloc κs r. refl;
  name = vec.Key.name;
  code = vec_symbol.code;
  clauses = λ {M} 𝓤 𝓛 𝓜 𝓡 A alloc d dd. vec.clauses A alloc d dd 𝓛 𝓜.mem 𝓡.returns;
  met = vec_callee.met;
}

abbrev pub body_to_string : Family elements
body_to_string = record {
  form = string_form;
  back = λ A alloc κs r. r;
  again = λ A alloc κs r. refl;
  name = body_string.Key.name;
  code = body_string_symbol.code;
  clauses = λ {M} 𝓤 𝓛 𝓜 𝓡 A alloc d dd. body_string.clauses A alloc d dd 𝓛 𝓜.mem 𝓡.returns;
  met = body_string_callee.met;
}

abbrev pub body_to_vec : Family elements
body_to_vec = record {
  form = vec_form;
  back = λ A alloc κs r. r;
  again = λ A alloc κs r. refl;
  name = body_vec.Key.name;
  code = body_vec_symbol.code;
  clauses = λ {M} 𝓤 𝓛 𝓜 𝓡 A alloc d dd. body_vec.clauses A alloc d dd 𝓛 𝓜.mem 𝓡.returns;
  met = body_vec_callee.met;
}
