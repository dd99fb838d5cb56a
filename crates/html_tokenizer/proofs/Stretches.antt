-- A byte that neither ends a value nor begins something in it is read as itself, and at each byte that ends no stretch the tokenizer stays where it is.
use Rattle.std.specs.Prelude.{not}
use Rattle.std.proofs.Common.{ℕ, ◌≡◌, ◌≤◌, ◌<◌, Bool, true, false, [], ◌∷◌, ◌==◌, ◌||◌, refl, ap, ◌∙◌, sym, List, length, slice_index, take, arith, true≢false}
use Rattle.std.proofs.lemmas.Bool.{or_parts}
use Rattle.hesc_specs.specs.Text.Ascii.{ampersand, backslash, double_quote, greater_than, less_than, single_quote}
use Rattle.hesc_grammars.specs.Html.{is_unquoted_error}
use Rattle.hesc_grammars.specs.StyleStrings.{is_newline_or_nul}
use Rattle.html_tokenizer.specs.declared.elements.Content.{Content}
use Rattle.html_tokenizer.specs.declared.slot_place.SlotPlace.{SlotPlace}
use Rattle.html_tokenizer.specs.declared.slot_place.SlotPlace.TheVariants.{Text, DoubleQuoted, SingleQuoted, Unquoted, ScriptSingle, ScriptDouble, StyleSingle, StyleDouble}
use Rattle.html_tokenizer.specs.Tokenizer.Actions.{read_byte}
use Rattle.html_tokenizer.specs.Tokenizer.Attributes.{may_end_raw, value_byte_read}
use Rattle.html_tokenizer.specs.Tokenizer.Code.Comments.{ends_line, block_byte, line_byte, stays}
use Rattle.html_tokenizer.specs.Tokenizer.Code.Strings.{string_byte}
use Rattle.html_tokenizer.specs.Tokenizer.States.{Attribute, In, at_value, BogusComment, Comment, InCode, at}
use Rattle.html_tokenizer.specs.Tokenizer.Phases.{attribute_in}
use Rattle.html_tokenizer.specs.Tokenizer.Stretches.{ends_string, keeps_part, leaves_value, leaves_code}
use Rattle.html_tokenizer.specs.declared.states.Kind.{Kind}
use Rattle.html_tokenizer.specs.declared.states.Kind.TheVariants as kinds
use Rattle.html_tokenizer.specs.Tokenizer.Tags.{is_space}
use Rattle.html_tokenizer.specs.Tokenizer.Tokenization.{consume, value_byte, state_after}
use Rattle.html_tokenizer.specs.Tokenizer.Transitions.{keeps, moves, Transition}
use Rattle.html_tokenizer.specs.Tokenizer.Values.{quoted_byte}
use Rattle.std.proofs.lemmas.Bool.Decides.{nat_tests}
use Rattle.hesc_specs.specs.Text.FirstPlace.{IsFirstPlace}
use Rattle.html_tokenizer.specs.declared.elements.OpenElement.{OpenElement}
use Rattle.html_tokenizer.specs.declared.elements.OpenElement.TheVariants.{Script, Style, Frame}
use Rattle.html_tokenizer.specs.declared.states.Code.{Code}
use Rattle.html_tokenizer.specs.declared.states.Code.TheVariants as code
use Rattle.html_tokenizer.specs.Tokenizer.Code.{code_byte}
use Rattle.html_tokenizer.specs.Tokenizer.Code.Characters.{asterisk}
use Rattle.html_tokenizer.specs.Tokenizer.Code.Escapes.{escaped_byte}
use Rattle.html_tokenizer.specs.Tokenizer.Code.Scripts.{json_byte}
use Rattle.html_tokenizer.specs.Tokenizer.Code.Styles.{front_comment_byte, style_byte, url_byte}
use Rattle.html_tokenizer.specs.Tokenizer.Comments.{dash}
use Rattle.html_tokenizer.proofs.Passing.{stays_at_each, stays_up_to}

module _ (p : SlotPlace) (content : Content) (attribute : Attribute) (b : ℕ) where
  quoted_kept : (mark : ℕ) → (b == mark || b == ampersand) ≡ false → may_end_raw attribute b ≡ false →
      quoted_byte mark p content attribute b ≡ keeps p content attribute b
  quoted_kept mark remains no_end = let parts = or_parts (b == mark) (b == ampersand) remains in rw (parts.0, parts.1, no_end) refl

  pub string_kept : (breaks : ℕ → Bool) (mark : ℕ) → ends_string breaks mark b ≡ false → string_byte breaks mark p content attribute b ≡ keeps p content attribute b
  string_kept breaks mark remains =
      let breaking = or_parts _ (breaks b) remains in
      let tags = or_parts _ (b == less_than) breaking.0 in
      let marks = or_parts (b == mark) (b == backslash) tags.0 in
      rw (marks.0, marks.1, tags.1, breaking.1) refl

pub value_kept : (p : SlotPlace) (content : Content) (attribute : Attribute) (b : ℕ) → leaves_value p b ≡ false → may_end_raw attribute b ≡ false →
    value_byte p content attribute b ≡ keeps p content attribute b
value_kept Text content attribute b remains no_end = let parts = or_parts (b == less_than) (b == ampersand) remains in rw (parts.0, parts.1) refl
value_kept DoubleQuoted content attribute b remains no_end = quoted_kept DoubleQuoted content attribute b double_quote remains no_end
value_kept SingleQuoted content attribute b remains no_end = quoted_kept SingleQuoted content attribute b single_quote remains no_end
value_kept Unquoted content attribute b remains no_end =
    let errors = or_parts _ (is_unquoted_error b) remains in
    let references = or_parts _ (b == ampersand) errors.0 in
    let ends = or_parts (is_space b) (b == greater_than) references.0 in
    rw (ends.0, ends.1, references.1, errors.1) refl
value_kept ScriptSingle content attribute b remains no_end = string_kept ScriptSingle content attribute b ends_line single_quote remains
value_kept ScriptDouble content attribute b remains no_end = string_kept ScriptDouble content attribute b ends_line double_quote remains
value_kept StyleSingle content attribute b remains no_end = string_kept StyleSingle content attribute b is_newline_or_nul single_quote remains
value_kept StyleDouble content attribute b remains no_end = string_kept StyleDouble content attribute b is_newline_or_nul double_quote remains

-- where its attribute stays as it is
pub byte_kept : (p : SlotPlace) (content : Content) (attribute : Attribute) (b : ℕ) → value_byte_read attribute b ≡ attribute → leaves_value p b ≡ false →
    may_end_raw attribute b ≡ false →
    consume (at_value (In p) content attribute) b ≡ moves (at_value (In p) content attribute) (read_byte p b ∷ [])
unfolding consume
byte_kept p content attribute b settled remains no_end =
    value_kept p content attribute b remains no_end ∙ ap (λ a. moves (at_value (In p) content a) (read_byte p b ∷ [])) settled

pub value_consumed : (p : SlotPlace) (content : Content) (attribute : Attribute) (b : ℕ) → consume (at_value (In p) content attribute) b ≡ value_byte p content attribute b
unfolding consume
value_consumed p content attribute b = refl

-- ---- stretches

stays_in_comment : (content : Content) (b : ℕ) → (b == dash) ≡ false → (consume (at Comment content) b).next ≡ at Comment content
unfolding consume
stays_in_comment content b no_dash = rw no_dash refl

stays_in_bogus_comment : (content : Content) (b : ℕ) → (b == greater_than) ≡ false →
    (consume (at BogusComment content) b).next ≡ at BogusComment content
unfolding consume
stays_in_bogus_comment content b no_end = rw no_end refl

stays_opaque : (content : Content) (b : ℕ) → code_byte code.Opaque content b ≡ stays code.Opaque content b → (b == less_than) ≡ false →
    (consume (at (InCode code.Opaque) content) b).next ≡ at (InCode code.Opaque) content
unfolding consume
stays_opaque content b is no_less_than = rw (no_less_than, is) refl

stays_in_json : (content : Content) (b : ℕ) → code_byte code.JsonRest content b ≡ json_byte code.JsonRest content b → (b == less_than) ≡ false →
    (consume (at (InCode code.JsonRest) content) b).next ≡ at (InCode code.JsonRest) content
unfolding consume
stays_in_json content b is no_less_than = rw (no_less_than, is) refl

stays_in_block : (content : Content) (b : ℕ) → code_byte code.BlockComment content b ≡ block_byte content b →
    (b == asterisk || b == less_than) ≡ false →
    (consume (at (InCode code.BlockComment) content) b).next ≡ at (InCode code.BlockComment) content
unfolding consume
stays_in_block content b is remains =
    let parts = or_parts (b == asterisk) (b == less_than) remains in
    rw (parts.1, is, parts.0) refl

stays_escaped : (kind after : Code) (content : Content) (b : ℕ) → code_byte kind content b ≡ escaped_byte after kind content b →
    (b == dash || b == less_than) ≡ false → (consume (at (InCode kind) content) b).next ≡ at (InCode kind) content
unfolding consume
stays_escaped kind after content b is remains =
    let parts = or_parts (b == dash) (b == less_than) remains in
    rw (parts.1, is, parts.0) refl

line_kept : (content : Content) (b : ℕ) → leaves_code Script code.LineComment b ≡ false → line_byte content b ≡ stays code.LineComment content b
line_kept content b remains = grind (arith, nat_tests)

front_kept : (content : Content) (b : ℕ) → leaves_code Style code.FrontComment b ≡ false → front_comment_byte content b ≡ stays code.FrontComment content b
front_kept content b remains = grind (arith, nat_tests)

style_kept : (content : Content) (b : ℕ) → leaves_code Style code.Plain b ≡ false → style_byte content b ≡ stays code.Plain content b
style_kept content b remains = grind (arith, nat_tests)

url_kept : (content : Content) (b : ℕ) → leaves_code Style code.Url b ≡ false → url_byte content b ≡ stays code.Url content b
url_kept content b remains = grind (arith, nat_tests)

stays_in_code : (element : OpenElement) (kind : Code) (content : Content) (b : ℕ) → content.element ≡ element →
    leaves_code element kind b ≡ false → (consume (at (InCode kind) content) b).next ≡ at (InCode kind) content
unfolding consume
stays_in_code Script code.Opaque content b is remains = stays_opaque content b (rw is refl) remains
stays_in_code Script code.JsonRest content b is remains = stays_in_json content b (rw is refl) remains
stays_in_code Style code.Opaque content b is remains = stays_opaque content b (rw is refl) remains
stays_in_code Frame code.Opaque content b is remains = stays_opaque content b (rw is refl) remains
stays_in_code Script code.BlockComment content b is remains = stays_in_block content b (rw is refl) remains
stays_in_code Style code.BlockComment content b is remains = stays_in_block content b (rw is refl) remains
stays_in_code Script code.Escaped content b is remains = stays_escaped code.Escaped code.EscapedDash content b (rw is refl) remains
stays_in_code Script code.DoubleEscaped content b is remains = stays_escaped code.DoubleEscaped code.DoubleEscapedDash content b (rw is refl) remains
stays_in_code Script code.LineComment content b is remains = let less : (b == less_than) ≡ false = grind (arith, nat_tests) in rw (less, is) (ap (λ (x : Transition). x.next) (line_kept _ b remains))
stays_in_code Style code.FrontComment content b is remains = let less : (b == less_than) ≡ false = grind (arith, nat_tests) in rw (less, is) (ap (λ (x : Transition). x.next) (front_kept _ b remains))
stays_in_code Style code.Plain content b is remains = let less : (b == less_than) ≡ false = grind (arith, nat_tests) in rw (less, is) (ap (λ (x : Transition). x.next) (style_kept _ b remains))
stays_in_code Style code.Url content b is remains = let less : (b == less_than) ≡ false = grind (arith, nat_tests) in rw (less, is) (ap (λ (x : Transition). x.next) (url_kept _ b remains))
stays_in_code element kind content b is remains = absurd (true≢false remains)

pub value_stretch_stays : (p : SlotPlace) (content : Content) (attribute : Attribute) (bytes : List ℕ) (count : ℕ) →
    IsFirstPlace (leaves_value p) bytes 0 count → ((b : ℕ) → value_byte_read attribute b ≡ attribute) → ((b : ℕ) → may_end_raw attribute b ≡ false) →
    state_after (at_value (In p) content attribute) (take count bytes) ≡ at_value (In p) content attribute
value_stretch_stays p content attribute bytes count first settled no_end =
    stays_up_to (leaves_value p) _ bytes count first (λ b remains. ap (λ (x : Transition). x.next) (byte_kept p content attribute b (settled b) remains (no_end b)))

pub code_stretch_stays : (kind : Code) (content : Content) (bytes : List ℕ) (count : ℕ) →
    IsFirstPlace (leaves_code content.element kind) bytes 0 count →
    state_after (at (InCode kind) content) (take count bytes) ≡ at (InCode kind) content
code_stretch_stays kind content bytes count first =
    stays_up_to (leaves_code content.element kind) _ bytes count first (λ b remains. stays_in_code content.element kind content b refl remains)

pub comment_stretch_stays : (content : Content) (bytes : List ℕ) (count : ℕ) → IsFirstPlace (λ b. b == dash) bytes 0 count →
    state_after (at Comment content) (take count bytes) ≡ at Comment content
comment_stretch_stays content bytes count first = stays_up_to (λ b. b == dash) _ bytes count first (stays_in_comment content)

pub bogus_comment_stretch_stays : (content : Content) (bytes : List ℕ) (count : ℕ) → IsFirstPlace (λ b. b == greater_than) bytes 0 count →
    state_after (at BogusComment content) (take count bytes) ≡ at BogusComment content
bogus_comment_stretch_stays content bytes count first = stays_up_to (λ b. b == greater_than) _ bytes count first (stays_in_bogus_comment content)

-- ---- the value of a `style`

abbrev pub is_quoted : SlotPlace → Bool
is_quoted DoubleQuoted = true
is_quoted SingleQuoted = true
is_quoted other = false

not_true : (x : Bool) → not x ≡ true → x ≡ false
not_true true e = sym e
not_true false e = refl

-- a byte at which it stays in its part neither ends a value in quotes nor begins a reference
part_in_quotes : (kind : Kind) (b : ℕ) → keeps_part kind b ≡ true → (b == double_quote || b == single_quote || b == ampersand) ≡ false
part_in_quotes kinds.DeclarationName b keeps = grind (arith, nat_tests)
part_in_quotes kinds.DeclarationValue b keeps = grind (arith, nat_tests)
part_in_quotes kinds.OpaqueStyle b keeps = not_true _ keeps
part_in_quotes kind b keeps = absurd (true≢false (sym keeps))

part_kept : (p : SlotPlace) (kind : Kind) (b : ℕ) → is_quoted p ≡ true → keeps_part kind b ≡ true → leaves_value p b ≡ false
part_kept DoubleQuoted kind b quoted keeps =
    let parts = or_parts (b == double_quote || b == single_quote) (b == ampersand) (part_in_quotes kind b keeps) in
    let marks = or_parts (b == double_quote) (b == single_quote) parts.0 in
    rw (marks.0, parts.1) refl
part_kept SingleQuoted kind b quoted keeps =
    let parts = or_parts (b == double_quote || b == single_quote) (b == ampersand) (part_in_quotes kind b keeps) in
    let marks = or_parts (b == double_quote) (b == single_quote) parts.0 in
    rw (marks.1, parts.1) refl
part_kept p kind b quoted keeps = absurd (true≢false (sym quoted))

part_read : (kind : Kind) (word : List ℕ) (b : ℕ) → keeps_part kind b ≡ true → value_byte_read (attribute_in kind word) b ≡ attribute_in kind word
part_read kinds.DeclarationName word b keeps = rw keeps refl
part_read kinds.DeclarationValue word b keeps = rw keeps refl
part_read kinds.OpaqueStyle word b keeps = refl
part_read kind word b keeps = absurd (true≢false (sym keeps))

part_ends_no_raw : (kind : Kind) (word : List ℕ) (b : ℕ) → keeps_part kind b ≡ true → may_end_raw (attribute_in kind word) b ≡ false
part_ends_no_raw kinds.DeclarationName word b keeps = refl
part_ends_no_raw kinds.DeclarationValue word b keeps = refl
part_ends_no_raw kinds.OpaqueStyle word b keeps = refl
part_ends_no_raw kind word b keeps = absurd (true≢false (sym keeps))

pub style_stretch_stays : (p : SlotPlace) (content : Content) (kind : Kind) (word bytes : List ℕ) (count : ℕ) → is_quoted p ≡ true → count ≤ length bytes →
    ((k : ℕ) → k < count → keeps_part kind (slice_index bytes k) ≡ true) →
    state_after (at_value (In p) content (attribute_in kind word)) (take count bytes) ≡ at_value (In p) content (attribute_in kind word)
style_stretch_stays p content kind word bytes count quoted within keeps =
    stays_at_each _ bytes count within
    (λ k below. let b = slice_index bytes k in
    ap (λ (x : Transition). x.next)
    (byte_kept p content (attribute_in kind word) b (part_read kind word b (keeps k below)) (part_kept p kind b quoted (keeps k below))
    (part_ends_no_raw kind word b (keeps k below))))
