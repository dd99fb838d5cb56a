use base.Logic.{id⊢}
use Rattle.hesc_engine.proofs.HandsOn.{hands_on, vec_form}
use Rattle.html_json.specs.contracts.forms.encode_json_to_vec as f
use Rattle.html_json.specs.contracts.forms.append_json_to_vec as g
use Rattle.html_json.proofs.forms.encode_json_to_vec.Statement.{statement}
use Rattle.html_json.proofs.forms.encode_json_to_vec.Code as code
use Rattle.html_json.proofs.forms.append_json_to_vec.Met as callee

pub encode_json_to_vec_spec : {M : Type 1} → statement M
encode_json_to_vec_spec 𝓤 𝓛 𝓜 𝓡 wired A L alloc d dd met md =
    hands_on (vec_form A alloc) 𝓤 𝓛 𝓜 𝓡 (f.clauses A alloc d dd 𝓛 𝓜.mem 𝓡.returns) (g.clauses A alloc d dd 𝓛 𝓜.mem 𝓡.returns) (λ κs a n. n) (λ κs a n. id⊢ 𝓤 _) (λ κs a n r ws. id⊢ 𝓤 _)
    A d dd code.function f.Key.name g.Key.name (code.unfolded 𝓤 𝓛.H 𝓜 𝓡 wired (A, tt) d dd) (callee.met 𝓤 𝓛 𝓜 𝓡 (code.calls-html_json::forms::append_json_to_vec 𝓡.env wired) A L alloc d dd met md)
