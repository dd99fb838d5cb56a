-- What a component's bytes are, and that it decodes to its text.
use Rattle.std.proofs.Common.{◌≡◌, ◌↔◌, subst, ◌≤◌, ◌+◌, ◌*◌, ℕ, true, false, not, List, [], ◌∷◌, ◌++◌, length, if◌then◌else◌, length-append, take, drop, take-append-drop, sym, All, refl, ap, ◌∙◌, arith, inl, inr}
use Rattle.std.proofs.lemmas.Bool.{cases_Bool, cond-true, cond-false}
use Rattle.std.proofs.lemmas.Bool.Decides.{nat_tests}
use Rattle.std.proofs.lemmas.List.Elements.{All-append, All-drop, All-take, All-weaker}
use Rattle.std.proofs.lemmas.List.Sums.{sum_by-cons}
use Rattle.percent_encoding.specs.declared.ascii_set.AsciiSet.{AsciiSet}
use Rattle.percent_encoding.specs.Percent.{IsKept, percent_encode, percent_encode_byte, percent_decode}
use Rattle.percent_encoding.specs.AsciiSet.{contains, should_percent_encode}
use Rattle.percent_encoding.proofs.PercentLemmas.{IsByte, IsEscapeByte, All-percent_encode, percent_encode-append, percent_encode-nil, percent_encode_escaped, percent_encode_kept, percent_encode_unchanged, round_trip}
use Rattle.url.proofs.InputLemmas.{IsNot, Passes}
use Rattle.url.proofs.SetLemmas.{outside_pass, passing_outside, is_escape_byte, passes_from_kept, encoded_is_kept}
use Rattle.hesc_sinks.specs.Took.{Seen, TookAll}
use Rattle.hesc_sinks.proofs.Took.{Progress, Progress-all}
use Rattle.html_urls.specs.declared.component.TheConstants.{ADDRESS, COMPONENT}
use Rattle.html_urls.specs.declared.place.UrlPlace.{UrlPlace}
use Rattle.html_urls.specs.declared.place.UrlPlace.TheVariants.{Path, OpaquePath, Query, Fragment}
use Rattle.html_urls.specs.Components.{IsUnreservedText, address, component, component_at, encoded_count, is_component_byte, is_encoded, is_written_byte}
use Rattle.html_urls.specs.Inputs.{IsVisible}

escape_is_component : (b : ℕ) → IsEscapeByte b → Passes is_component_byte b
escape_is_component b escape = grind (arith, nat_tests)

-- letters, digits, `-._~` and `%`
pub component_bytes : (text : List ℕ) → All (Passes is_component_byte) (component text)
component_bytes text =
    All-percent_encode (Passes is_component_byte) COMPONENT text (passes_from_kept COMPONENT is_component_byte refl) escape_is_component

pub component_visible : (text : List ℕ) → All IsVisible (component text)
component_visible text =
    All-weaker (Passes is_component_byte) IsVisible (λ b passes. grind (arith, nat_tests)) (component text) (component_bytes text)

-- no byte that the test refuses is in a component
pub component_without : (mark : ℕ) → is_component_byte mark ≡ false → (text : List ℕ) → All (IsNot mark) (component text)
component_without mark other text = grind (arith, nat_tests, component_bytes)

-- ---- in any part of a URL

escape_is_written : (b : ℕ) → IsEscapeByte b → Passes is_written_byte b
escape_is_written b escape = grind (arith, nat_tests)

component_is_written : (text : List ℕ) → All (Passes is_written_byte) (component text)
component_is_written text = All-weaker (Passes is_component_byte) (Passes is_written_byte) (λ b passes. grind (arith, nat_tests)) (component text) (component_bytes text)

pub address_bytes : (text : List ℕ) → All (Passes is_written_byte) (address text)
address_bytes text =
    All-percent_encode (Passes is_written_byte) ADDRESS text (passes_from_kept ADDRESS is_written_byte refl) escape_is_written

pub written_bytes : (at : UrlPlace) (text : List ℕ) → All (Passes is_written_byte) (component_at at text)
written_bytes Path text = component_is_written text
written_bytes OpaquePath text = address_bytes text
written_bytes Query text = component_is_written text
written_bytes Fragment text = component_is_written text

pub written_visible : (at : UrlPlace) (text : List ℕ) → All IsVisible (component_at at text)
written_visible at text =
    All-weaker (Passes is_written_byte) IsVisible (λ b passes. grind (arith, nat_tests)) (component_at at text) (written_bytes at text)

pub written_without : (mark : ℕ) → is_written_byte mark ≡ false → (at : UrlPlace) (text : List ℕ) → All (IsNot mark) (component_at at text)
written_without mark other at text = grind (arith, nat_tests, written_bytes)

-- decoding gives the text back
pub decode-component : (text : List ℕ) → All IsByte text → percent_decode (component text) ≡ text
decode-component text small = round_trip COMPONENT text refl small

pub decode-written : (at : UrlPlace) (text : List ℕ) → All IsByte text → percent_decode (component_at at text) ≡ text
decode-written Path text small = decode-component text small
decode-written OpaquePath text small = round_trip ADDRESS text refl small
decode-written Query text small = decode-component text small
decode-written Fragment text small = decode-component text small

-- a set that escapes no byte of what another one encodes leaves it as it is between others
pub encode_around : (own set : AsciiSet) → outside_pass own (λ b. not (contains set b)) ≡ true → passing_outside is_escape_byte set ≡ true → (before text after : List ℕ) →
    percent_encode set (before ++ percent_encode own text ++ after) ≡ percent_encode set before ++ percent_encode own text ++ percent_encode set after
encode_around own set within escapes before text after =
    let kept = percent_encode_unchanged set (percent_encode own text) (encoded_is_kept own set within escapes text) in
    percent_encode-append set (before ++ percent_encode own text) after
    ∙ ap (λ x. x ++ percent_encode set after) (percent_encode-append set before (percent_encode own text) ∙ ap (λ x. percent_encode set before ++ x) kept)

pub length-percent_encode_byte : (b : ℕ) → length (percent_encode_byte b) ≡ 3
unfolding percent_encode_byte
length-percent_encode_byte b = refl

-- each byte becomes three at most
pub length-component : (text : List ℕ) → length (component text) ≤ length text * 3
length-component [] = rw (percent_encode-nil COMPONENT) (omega arith)
length-component (b ∷ text) =
    let later = length-component text in
    elim (cases_Bool (should_percent_encode COMPONENT b)) [
      | inl escaped ↦ rw (percent_encode_escaped COMPONENT b text escaped) (omega (arith, later, length-append (percent_encode_byte b) (component text), length-percent_encode_byte b))
      | inr plain ↦ rw (percent_encode_kept COMPONENT b text plain) (omega (arith, later))
    ]

-- ---- how many bytes are encoded

-- each of these adds two bytes
pub component_length_is : (text : List ℕ) → length (component text) ≡ length text + encoded_count text * 2
component_length_is [] = rw (percent_encode-nil COMPONENT) refl
component_length_is (b ∷ text) =
    let later = component_length_is text in
    let counted = sum_by-cons (λ c. if is_encoded c then 1 else 0) b text in
    elim (cases_Bool (should_percent_encode COMPONENT b)) [
      | inl escaped ↦ let one : encoded_count (b ∷ text) ≡ 1 + encoded_count text = counted ∙ ap (λ n. n + encoded_count text) (cond-true _ _ _ escaped) in
          ap length (percent_encode_escaped COMPONENT b text escaped) ∙ omega (arith, one, later, length-append (percent_encode_byte b) (component text), length-percent_encode_byte b)
      | inr plain ↦ let none : encoded_count (b ∷ text) ≡ 0 + encoded_count text = counted ∙ ap (λ n. n + encoded_count text) (cond-false _ _ _ plain) in
          ap length (percent_encode_kept COMPONENT b text plain) ∙ omega (arith, none, later)
    ]

-- what a set makes of a text in two parts
pub encoded_parts : (set : AsciiSet) (text front back : List ℕ) (n : ℕ) → front ≡ take n text → back ≡ drop n text → percent_encode set text ≡ percent_encode set front ++ percent_encode set back
encoded_parts set text front back n is_front is_back =
    ap (percent_encode set) (sym (take-append-drop n text)) ∙ percent_encode-append set (take n text) (drop n text)
    ∙ ap (λ l. percent_encode set l ++ percent_encode set (drop n text)) (sym is_front)
    ∙ ap (λ l. percent_encode set front ++ percent_encode set l) (sym is_back)

-- after the last part
pub all_taken : (set : AsciiSet) (old now : Seen) (rest text : List ℕ) → length rest ≡ 0 → Progress old now (percent_encode set rest) (percent_encode set text) → TookAll old now (percent_encode set text)
all_taken set old now [] text none progress = Progress-all progress (percent_encode-nil set)
all_taken set old now (b ∷ rest) text none progress = absurd (omega (arith, none))

-- a text in two parts is its own component where both are
pub unreserved_parts : (text front back : List ℕ) (n : ℕ) → front ≡ take n text → back ≡ drop n text → IsUnreservedText text ↔ (IsUnreservedText front × IsUnreservedText back)
unreserved_parts text front back n is_front is_back = (
  λ kept. (subst IsUnreservedText (sym is_front) (All-take (IsKept COMPONENT) n text kept), subst IsUnreservedText (sym is_back) (All-drop (IsKept COMPONENT) n text kept)),
  λ both. subst IsUnreservedText (ap (λ l. l ++ back) is_front ∙ ap (λ l. take n text ++ l) is_back ∙ take-append-drop n text) (All-append (IsKept COMPONENT) front back both.0 both.1),
)
