-- A text in the fragment.
use Rattle.std.proofs.Common.{◌≡◌, ℕ, List, ◌++◌, Option, Some, sym, refl, ap, ◌∙◌, append_assoc, None}
use Rattle.percent_encoding.specs.Percent.{percent_encode}
use Rattle.url.specs.declared.sets.TheConstants.{FRAGMENT}
use Rattle.url.specs.Input.{split_once}
use Rattle.url.specs.Parts.{Parts}
use Rattle.url.specs.Parser.{parse_by_scheme, split_scheme, parse_url}
use Rattle.html_urls.specs.declared.component.TheConstants.{COMPONENT}
use Rattle.html_urls.specs.Components.{component}
use Rattle.html_urls.specs.Heads.{on_ok}
use Rattle.html_urls.specs.Inputs.{kept, kept_rest}
use Rattle.html_urls.specs.Parts.Fragments.{EndsInFragment, fragment_goes_on}
use Rattle.html_urls.proofs.Components.{encode_around}
use Rattle.html_urls.proofs.Splits.{kept_around, split_found, some_value}
use Rattle.html_urls.proofs.Tails.{tails_go_on, with_tails}

-- THE FRAGMENT LAW: the URL is that of the front, with a fragment that goes on
pub fragment_law : (base : Option Parts) (front text rest : List ℕ) → EndsInFragment front →
    parse_url base (front ++ component text ++ rest) ≡ on_ok (fragment_goes_on text rest) (parse_url base front)
unfolding parse_url
fragment_law base front text rest place =
    let c = component text in
    let (f, found) = some_value (split_once 35 (kept front)).1 place.fragment in
    let before = (split_once 35 (kept front)).0 in
    let after = kept_rest rest in
    let whole_hash = ap (split_once 35) (kept_around front text rest place.ends) ∙ split_found 35 (kept front) (c ++ after) f found in
    let front_hash : split_once 35 (kept front) ≡ (before, Some f) = λ i. (before, found i) in
    let question = split_once 63 before in
    let read = λ (hash : List ℕ × Option (List ℕ)). parse_by_scheme (split_scheme (split_once 63 hash.0).0) base (split_once 63 hash.0).0 (split_once 63 hash.0).1 hash.1 in
    let goes_on : (url : Parts) → fragment_goes_on text rest (with_tails question.1 (Some f) url) ≡ with_tails question.1 (Some (f ++ (c ++ after))) url =
    λ url. ap (λ x. record (with_tails question.1 None url) { fragment = Some x }) (sym (encode_around COMPONENT FRAGMENT refl refl f text after) ∙ ap (percent_encode FRAGMENT) (append_assoc f c after)) in
    ap read whole_hash
    ∙ tails_go_on (split_scheme question.0) base question.0 question.1 question.1 (Some f) (Some (f ++ (c ++ after))) (fragment_goes_on text rest) (refl, λ _. refl) goes_on
    ∙ sym (ap (on_ok (fragment_goes_on text rest)) (ap read front_hash))
