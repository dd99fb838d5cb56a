-- A block of a text on the stack: what was stored of its component, byte by byte.
use Rattle.std.proofs.Common.{◌≡◌, ℕ, ◌+◌, ◌*◌, ◌≤◌, ◌<◌, List, [], ◌∷◌, ◌++◌, get_or, drop, length, take, take-append-drop, refl, sym, ap, ◌∙◌, subst, take_all, append-nil, length-take-le, arith, inl, inr}
use Rattle.std.proofs.lemmas.Bool.{cases_Bool, cond-true, cond-false}
use Rattle.std.proofs.Math.Seq.{take-add}
use Rattle.std.proofs.lemmas.List.{take_more}
use Rattle.std.proofs.lemmas.Simd.{length-put_chunk, take_more_put_chunk}
use Rattle.std.specs.Simd.Lanes.{put_chunk}
use Rattle.percent_encoding.specs.AsciiSet.{should_percent_encode}
use Rattle.percent_encoding.specs.Percent.{encode_byte, percent_encode_byte}
use Rattle.percent_encoding.proofs.PercentLemmas.{percent_encode-append, percent_encode-nil, percent_encode_escaped, percent_encode_kept}
use Rattle.hesc_sinks.specs.Stores.{Stored}
use Rattle.hesc_sinks.proofs.Stores.{stored_first, stored_then}
use Rattle.html_urls.specs.declared.component.TheConstants.{COMPONENT}
use Rattle.html_urls.specs.Components.{component}
use Rattle.html_urls.proofs.Components.{length-component}

-- a row of so many bytes, of which fewer are wanted
pub stored_row : (old bytes made : List ℕ) (place width count : ℕ) → length bytes ≡ width → take count bytes ≡ made → count ≤ width → place + width ≤ length old → Stored old (put_chunk place old bytes) place made (place + count)
stored_row old bytes made place width count long is few within =
    let new = put_chunk place old bytes in
    let block : Stored old new place bytes (place + width) = record {
      before = take_more_put_chunk place old bytes (place + width) (omega (arith, long)) within;
      after = omega (arith, long);
      long = length-put_chunk place old bytes;
    } in
    let whole : Stored old new place (take width bytes) (place + width) = subst (λ l. Stored old new place l (place + width)) (sym (take_all width bytes (omega (arith, long)))) block in
    let first : Stored old new place (take count bytes) (place + count) = stored_first old new bytes place width count (place + width) few (omega (arith, long)) (omega (arith, within)) whole in
    subst (λ l. Stored old new place l (place + count)) is first

component_one : (b : ℕ) → component (b ∷ []) ≡ encode_byte COMPONENT b
component_one b =
    elim (cases_Bool (should_percent_encode COMPONENT b)) [
      | inl escaped ↦ percent_encode_escaped COMPONENT b [] escaped ∙ ap (λ l. percent_encode_byte b ++ l) (percent_encode-nil COMPONENT) ∙ append-nil (percent_encode_byte b) ∙ sym (cond-true _ _ _ escaped)
      | inr plain ↦ percent_encode_kept COMPONENT b [] plain ∙ ap (λ l. b ∷ l) (percent_encode-nil COMPONENT) ∙ sym (cond-false _ _ _ plain)
    ]

-- the component of one byte more
component_more : (bytes : List ℕ) (i : ℕ) → i < length bytes → component (take i bytes) ++ encode_byte COMPONENT (get_or bytes i 0) ≡ component (take (i + 1) bytes)
component_more bytes i within =
    let byte = get_or bytes i 0 in
    ap (λ l. component (take i bytes) ++ l) (sym (component_one byte)) ∙ sym (percent_encode-append COMPONENT (take i bytes) (byte ∷ [])) ∙ ap component (sym (take_more bytes i 0 within))

pub stored_nothing : (old : List ℕ) (place : ℕ) → Stored old old place (component []) place
stored_nothing old place = subst (λ l. Stored old old place l place) (sym (percent_encode-nil COMPONENT)) (record { before = sym (append-nil (take place old)); after = omega arith; long = refl })

pub stored_byte : (old mid new bytes : List ℕ) (place i middle end : ℕ) → i < length bytes → Stored old mid place (component (take i bytes)) middle
    → Stored mid new middle (encode_byte COMPONENT (get_or bytes i 0)) end → Stored old new place (component (take (i + 1) bytes)) end
stored_byte old mid new bytes place i middle end within one two =
    subst (λ l. Stored old new place l end) (component_more bytes i within) (stored_then old mid new (component (take i bytes)) (encode_byte COMPONENT (get_or bytes i 0)) place middle end one two)

-- the component of so many bytes more
pub stored_more : (old mid new bytes rest : List ℕ) (place i n middle end : ℕ) → rest ≡ drop i bytes → Stored old mid place (component (take i bytes)) middle
    → Stored mid new middle (component (take n rest)) end → Stored old new place (component (take (i + n) bytes)) end
stored_more old mid new bytes rest place i n middle end is one two =
    let more : component (take i bytes) ++ component (take n rest) ≡ component (take (i + n) bytes) =
    sym (percent_encode-append COMPONENT (take i bytes) (take n rest)) ∙ ap (λ l. component (take i bytes ++ take n l)) is ∙ ap component (sym (take-add i n bytes)) in
    subst (λ l. Stored old new place l end) more (stored_then old mid new (component (take i bytes)) (component (take n rest)) place middle end one two)

-- at most three for each
pub stored_few : (old mid bytes : List ℕ) (place i middle : ℕ) → i ≤ length bytes → Stored old mid place (component (take i bytes)) middle → middle ≤ place + i * 3
stored_few old mid bytes place i middle within one = omega (arith, one.after, length-component (take i bytes), length-take-le i bytes within)

-- the component of all others
pub stored_rest : (old mid new bytes rest : List ℕ) (place i middle end : ℕ) → rest ≡ drop i bytes → Stored old mid place (component (take i bytes)) middle
    → Stored mid new middle (component rest) end → Stored old new place (component bytes) end
stored_rest old mid new bytes rest place i middle end is one two =
    let whole : component (take i bytes) ++ component rest ≡ component bytes =
    sym (percent_encode-append COMPONENT (take i bytes) rest) ∙ ap (λ l. component (take i bytes ++ l)) is ∙ ap component (take-append-drop i bytes) in
    subst (λ l. Stored old new place l end) whole (stored_then old mid new (component (take i bytes)) (component rest) place middle end one two)
