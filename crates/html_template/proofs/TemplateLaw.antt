-- The law of templates: piece by piece.
use Rattle.std.proofs.Common.{ℕ, ◌≡◌, Bool, true, false, List, [], ◌∷◌, IsUtf8, map, refl, sym, ap, ◌∙◌, arith, inl, inr}
use Rattle.std.proofs.lemmas.Bool.Decides.{nat_tests}
use Rattle.std.specs.List.{AllByRecursion, list_all}
use Rattle.hesc_specs.specs.Html.{encoding}
use Rattle.hesc_specs.specs.Text.Classes.{in_class}
use Rattle.hesc_specs.specs.declared.classes.Class.{Class}
use Rattle.hesc_specs.specs.declared.classes.Class.TheVariants as class
use Rattle.std.proofs.lemmas.Bool.{and_parts, cases_Bool}
use Rattle.html_escape.specs.Encoders.{encoded}
use Rattle.hesc_places.specs.Places.ReadBack.{read_back}
use Rattle.html_tokenizer.specs.declared.slot_place.SlotPlace.{SlotPlace}
use Rattle.html_tokenizer.specs.declared.slot_place.SlotPlace.TheVariants as place
use Rattle.html_tokenizer.specs.declared.states.Code.{Code}
use Rattle.html_tokenizer.specs.declared.states.Code.TheVariants as code
use Rattle.html_tokenizer.specs.declared.states.Code.TheVariants.{Plain}
use Rattle.html_tokenizer.specs.declared.states.ListPart.{ListPart}
use Rattle.html_tokenizer.specs.declared.states.ListPart.TheVariants as list
use Rattle.html_tokenizer.specs.declared.states.StylePart.{StylePart}
use Rattle.html_tokenizer.specs.declared.states.StylePart.TheVariants.{Value}
use Rattle.html_tokenizer.specs.Declarations.{is_style_byte}
use Rattle.html_tokenizer.specs.declared.elements.Content.{Content}
use Rattle.html_tokenizer.specs.declared.elements.OpenElement.{OpenElement}
use Rattle.html_tokenizer.specs.Tokenizer.Actions.{read_byte}
use Rattle.html_tokenizer.specs.Tokenizer.Code.{is_script}
use Rattle.html_tokenizer.specs.Tokenizer.States as state
use Rattle.html_tokenizer.specs.Tokenizer.States.{State, Attribute, Ordinary, Declarations, Listed, RawUrl, Url, Tokenizer, In, BeforeValue, Refused, InCode, at, at_value, refused, data_state}
use Rattle.html_tokenizer.specs.declared.reader.Standing.{Standing}
use Rattle.html_tokenizer.specs.declared.reader.Standing.TheVariants.{Barred, InDeclaration, InLink, InListedUrl, InUrl, Stands}
use Rattle.html_tokenizer.specs.Standing.{in_code, in_content, in_declaration, in_list, is_same, unless_forbidden, standing_in, standing}
use Rattle.html_tokenizer.specs.UrlValues.{is_url}
use Rattle.html_template.specs.declared.parts.SlotKind.{SlotKind}
use Rattle.html_template.specs.declared.parts.SlotKind.TheVariants.{Text, UrlPart, Link, OwnPath, Base, OwnBase, Literal, Json, StyleValue}
use Rattle.html_template.specs.declared.parts.SlotKind.TheVariants as kind
use Rattle.html_template.specs.Slots.{FitsPlace, base_kind, is_quoted, json_of, suits, whole_kind, past_slot, slot_actions}
use Rattle.html_template.specs.Templates.{Chunk, Markup, Slot, after_slot, encoder_for, handed, state_after_all, page, actions_all, MayFill, Fill, written}
use Rattle.html_tokenizer.specs.Tokenizer.Tokenization.{state_after}
use Rattle.html_tokenizer.proofs.Slots.Html.{Remains, text_stays, double_stays, double_stays_in, single_stays, single_stays_in, unquoted_stays, first_stays}
use Rattle.html_tokenizer.proofs.UrlValues.Attributes.{byte_settled, is_listed, is_open, open_so, reference_settled, whole_behind}
use Rattle.html_tokenizer.proofs.UrlValues.Slots.Components.{component_settled, component_stays, is_written_byte}
use Rattle.html_tokenizer.proofs.Passing.{Passes, passes_itself, passes_both, stays_refused}
use Rattle.html_tokenizer.proofs.Slots.Scripts.{json_passes, literal_passes, script_stays, script_single_reads, script_double_reads}
use Rattle.url.proofs.InputLemmas.{list_all_from_All}
use Rattle.html_urls.proofs.Components.{written_bytes}
use Rattle.html_urls.specs.Components.{component_at}
use Rattle.html_urls.specs.declared.base.BehindBase.{BehindBase}
use Rattle.html_urls.specs.declared.parts.UrlSlot.{UrlSlot}
use Rattle.html_json.specs.Encoding.{json_encoding}
use Rattle.html_json.proofs.Lengths.{all_apart}
use Rattle.html_template.proofs.JsonTexts.{some_json}
use Rattle.html_template.proofs.Walks.{base_stands, same_place}
use Rattle.html_tokenizer.proofs.Slots.Declarations.{style_text_stays}
use Rattle.html_tokenizer.proofs.Slots.Styles.{style_stays, style_single_reads, style_double_reads}

no : false ≡ true → ⊥
no h = cc

-- in code stand a string literal and JSON alone
abbrev is_in_code : SlotKind → Bool
is_in_code Literal = true
is_in_code Json = true
is_in_code other = false

no_code : (kind : SlotKind) (p : SlotPlace) (code : Code) (content : Content) (attribute : Attribute) → is_in_code kind ≡ false →
    suits kind p (in_code code content attribute) ≡ true → ⊥
no_code kind p code content attribute outside may = grind (arith, nat_tests)

in_any : (kind : SlotKind) (p : SlotPlace) (element : OpenElement) (standing : Standing) →
    suits kind p (in_content element standing) ≡ true → suits kind p standing ≡ true
in_any kind p element standing may = grind (arith, nat_tests)

-- nor in a declaration
not_declared : (kind : SlotKind) (p : SlotPlace) (part : StylePart) (q : SlotPlace) → suits kind p (InDeclaration place.DoubleQuoted) ≡ false →
    suits kind p (InDeclaration place.SingleQuoted) ≡ false → suits kind p Barred ≡ false → suits kind p (in_declaration part q) ≡ true → ⊥
not_declared kind p Value place.DoubleQuoted double single barred may = no (sym double ∙ may)
not_declared kind p Value place.SingleQuoted double single barred may = no (sym single ∙ may)
not_declared kind p part q double single barred may = no (sym barred ∙ may)

-- nor in a list of URLs
not_listed : (kind : SlotKind) (p : SlotPlace) (part : ListPart) (q : SlotPlace) → suits kind p (InListedUrl place.DoubleQuoted) ≡ false →
    suits kind p (InListedUrl place.SingleQuoted) ≡ false → suits kind p Barred ≡ false → suits kind p (in_list part q) ≡ true → ⊥
not_listed kind p list.Url place.DoubleQuoted double single barred may = no (sym double ∙ may)
not_listed kind p list.Url place.SingleQuoted double single barred may = no (sym single ∙ may)
not_listed kind p part q double single barred may = no (sym barred ∙ may)

-- ---- a slot for a text

-- it stands in no attribute but an ordinary one
pub slot_ordinary : (p : SlotPlace) (state : State) (content : Content) (attribute : Attribute) →
    suits Text p (standing_in state content attribute) ≡ true → attribute ≡ Ordinary
slot_ordinary p state content attribute may = grind (arith, nat_tests)

-- where a slot stands, in any content
abbrev at_place : State → Content → Standing
at_place (In q) content = Stands q
at_place other content = standing_in other content Ordinary

stands_at_place : (p : SlotPlace) (state : State) (content : Content) → suits Text p (standing_in state content Ordinary) ≡ true → suits Text p (at_place state content) ≡ true
stands_at_place p state content may = grind (arith, nat_tests)

-- what the encoder writes for a text in a slot leads to the state after the slot, and is read as the text
ordinary_passes : (p : SlotPlace) (state : State) (content : Content) (text : List ℕ) →
    suits Text p (at_place state content) ≡ true → FitsPlace p text → IsUtf8 text →
    Passes (at state content) (encoded (encoder_for p) text) (map (read_byte p) (read_back (encoder_for p) text)) (at (In p) content)
ordinary_passes place.Text (In place.Text) content text may full utf8 = text_stays content text
ordinary_passes place.DoubleQuoted (In place.DoubleQuoted) content text may full utf8 = double_stays content text
ordinary_passes place.SingleQuoted (In place.SingleQuoted) content text may full utf8 = single_stays content text
ordinary_passes place.Unquoted (In place.Unquoted) content text may full utf8 = unquoted_stays content text
ordinary_passes place.Unquoted BeforeValue content text may full utf8 = first_stays content text full
ordinary_passes place.ScriptSingle (In place.ScriptSingle) content text may full utf8 = script_stays (script_single_reads content) text utf8
ordinary_passes place.ScriptDouble (In place.ScriptDouble) content text may full utf8 = script_stays (script_double_reads content) text utf8
ordinary_passes place.StyleSingle (In place.StyleSingle) content text may full utf8 = style_stays (style_single_reads content) text utf8
ordinary_passes place.StyleDouble (In place.StyleDouble) content text may full utf8 = style_stays (style_double_reads content) text utf8
ordinary_passes p (InCode code) content text may full utf8 = absurd (no_code Text p code content Ordinary refl may)
ordinary_passes other elsewhere content text may full utf8 = absurd (no may)

text_passes : (p : SlotPlace) (state : State) (content : Content) (attribute : Attribute) (text : List ℕ) →
    suits Text p (standing_in state content attribute) ≡ true → FitsPlace p text → IsUtf8 text →
    Passes (at_value state content attribute) (encoded (encoder_for p) text) (map (read_byte p) (read_back (encoder_for p) text)) (at_value (In p) content attribute)
text_passes p state content attribute text may full utf8 =
    let ordinary = slot_ordinary p state content attribute may in
    rw ordinary (ordinary_passes p state content text (stands_at_place p state content (rw ordinary at may)) full utf8)

-- ---- a slot in a URL

-- it stands in the value of a URL
pub record IsInUrl (p : SlotPlace) (state : State) (attribute : Attribute) : Type 0 where
  pub state_is : state ≡ In p
  pub attribute_is : is_url attribute ≡ true

part_in_list : (slot : UrlSlot) (p : SlotPlace) (part : ListPart) (q : SlotPlace) → suits (UrlPart slot) p (in_list part q) ≡ true → IsInUrl p (In q) (Listed part)
part_in_list slot p list.Url place.DoubleQuoted may = record { state_is = ap In (sym (same_place p place.DoubleQuoted may)); attribute_is = refl }
part_in_list slot p list.Url place.SingleQuoted may = record { state_is = ap In (sym (same_place p place.SingleQuoted may)); attribute_is = refl }
part_in_list slot p part q may = absurd (no may)

pub part_in_url : (slot : UrlSlot) (p : SlotPlace) (state : State) (content : Content) (attribute : Attribute) →
    suits (UrlPart slot) p (standing_in state content attribute) ≡ true → IsInUrl p state attribute
part_in_url slot p (In q) content Url may =
    record { state_is = ap In (sym (same_place p q (in_any (UrlPart slot) p content.element (InUrl q) may))); attribute_is = refl }
part_in_url slot p (In q) content RawUrl may =
    record { state_is = ap In (sym (same_place p q (in_any (UrlPart slot) p content.element (InUrl q) may))); attribute_is = refl }
part_in_url slot p (In q) content state.Link may =
    record { state_is = ap In (sym (same_place p q (in_any (UrlPart slot) p content.element (InLink q) may))); attribute_is = refl }
part_in_url slot p (In q) content (Declarations part) may =
    absurd (not_declared (UrlPart slot) p part q refl refl refl (in_any (UrlPart slot) p content.element (in_declaration part q) may))
part_in_url slot p (In q) content (Listed part) may = part_in_list slot p part q (in_any (UrlPart slot) p content.element (in_list part q) may)
part_in_url slot p (In q) content other may = absurd (no (in_any (UrlPart slot) p content.element (unless_forbidden other q) may))
part_in_url slot p BeforeValue content Ordinary may = absurd (no may)
part_in_url slot p BeforeValue content other may = absurd (no may)
part_in_url slot p (InCode code) content attribute may = absurd (no_code (UrlPart slot) p code content attribute refl may)
part_in_url slot p elsewhere content attribute may = absurd (no may)

-- and in quotes
pub record IsInQuotes (p : SlotPlace) (state : State) (attribute : Attribute) : Type 0 where
  pub state_is : state ≡ In p
  pub attribute_is : is_open false attribute ≡ true
  pub quoted : is_quoted p ≡ true

link_in_url : (p : SlotPlace) (state : State) (content : Content) (attribute : Attribute) →
    suits Link p (standing_in state content attribute) ≡ true → IsInQuotes p state attribute
link_in_url p (In q) content state.Link may =
    let parts = and_parts (is_quoted p) (is_same p q) (in_any kind.Link p content.element (InLink q) may) in
    record { state_is = ap In (sym (same_place p q parts.1)); attribute_is = refl; quoted = parts.0 }
link_in_url p (In q) content (Declarations part) may =
    absurd (not_declared kind.Link p part q refl refl refl (in_any kind.Link p content.element (in_declaration part q) may))
link_in_url p (In q) content (Listed part) may =
    absurd (not_listed kind.Link p part q refl refl refl (in_any kind.Link p content.element (in_list part q) may))
link_in_url p (In q) content other may = absurd (no (in_any kind.Link p content.element (unless_forbidden other q) may))
link_in_url p BeforeValue content Ordinary may = absurd (no may)
link_in_url p BeforeValue content other may = absurd (no may)
link_in_url p (InCode code) content attribute may = absurd (no_code kind.Link p code content attribute refl may)
link_in_url p elsewhere content attribute may = absurd (no may)

own_in_url : (p : SlotPlace) (state : State) (content : Content) (attribute : Attribute) →
    suits OwnPath p (standing_in state content attribute) ≡ true → IsInQuotes p state attribute
own_in_url p (In q) content Url may =
    let parts = and_parts (is_quoted p) (is_same p q) (in_any OwnPath p content.element (InUrl q) may) in
    record { state_is = ap In (sym (same_place p q parts.1)); attribute_is = refl; quoted = parts.0 }
own_in_url p (In q) content RawUrl may =
    let parts = and_parts (is_quoted p) (is_same p q) (in_any OwnPath p content.element (InUrl q) may) in
    record { state_is = ap In (sym (same_place p q parts.1)); attribute_is = refl; quoted = parts.0 }
own_in_url p (In q) content (Declarations part) may =
    absurd (not_declared OwnPath p part q refl refl refl (in_any OwnPath p content.element (in_declaration part q) may))
own_in_url p (In q) content (Listed part) may =
    absurd (not_listed OwnPath p part q refl refl refl (in_any OwnPath p content.element (in_list part q) may))
own_in_url p (In q) content other may = absurd (no (in_any OwnPath p content.element (unless_forbidden other q) may))
own_in_url p BeforeValue content Ordinary may = absurd (no may)
own_in_url p BeforeValue content other may = absurd (no may)
own_in_url p (InCode code) content attribute may = absurd (no_code OwnPath p code content attribute refl may)
own_in_url p elsewhere content attribute may = absurd (no may)

pub whole_in_url : (is_followed : Bool) (p : SlotPlace) (state : State) (content : Content) (attribute : Attribute) →
    suits (whole_kind is_followed) p (standing_in state content attribute) ≡ true → IsInQuotes p state attribute
whole_in_url is_followed p state content attribute may = grind (arith, nat_tests, link_in_url, own_in_url)

-- also as a base
pub base_in_url : (is_followed : Bool) (behind : BehindBase) (p : SlotPlace) (state : State) (content : Content) (attribute : Attribute) →
    suits (base_kind behind (whole_kind is_followed)) p (standing_in state content attribute) ≡ true → IsInQuotes p state attribute
base_in_url is_followed behind p state content attribute may = grind (arith, nat_tests, whole_in_url, base_stands)

url_remains_so : (attribute : Attribute) → is_open false attribute ≡ true → Remains attribute
url_remains_so attribute url = record {
  bytes = λ b. byte_settled false attribute b url refl;
  references = reference_settled false attribute url;
  behind = whole_behind attribute url;
}

-- what is written for a whole URL stays in quotes
quoted_passes : (p : SlotPlace) (content : Content) (attribute : Attribute) (text : List ℕ) → is_quoted p ≡ true → is_open false attribute ≡ true →
    Passes (at_value (In p) content attribute) (encoded (encoder_for p) text) (map (read_byte p) (read_back (encoder_for p) text)) (at_value (In p) content attribute)
quoted_passes place.DoubleQuoted content attribute text quoted url =
    double_stays_in (url_remains_so attribute url) content text
quoted_passes place.SingleQuoted content attribute text quoted url =
    single_stays_in (url_remains_so attribute url) content text
quoted_passes other content attribute text quoted url = absurd (no quoted)

-- ---- a slot for a string literal

-- it stands in no value
no_value : (kind : SlotKind) (p : SlotPlace) (attribute : Attribute) (q : SlotPlace) → suits kind p (Stands q) ≡ false → suits kind p (InUrl q) ≡ false →
    suits kind p (InLink q) ≡ false → suits kind p (InDeclaration place.DoubleQuoted) ≡ false → suits kind p (InDeclaration place.SingleQuoted) ≡ false →
    suits kind p (InListedUrl place.DoubleQuoted) ≡ false → suits kind p (InListedUrl place.SingleQuoted) ≡ false → suits kind p Barred ≡ false →
    suits kind p (unless_forbidden attribute q) ≡ true → ⊥
no_value kind p Ordinary q stands url link double single listed_double listed_single barred may = no (sym stands ∙ may)
no_value kind p Url q stands url link double single listed_double listed_single barred may = no (sym url ∙ may)
no_value kind p RawUrl q stands url link double single listed_double listed_single barred may = no (sym url ∙ may)
no_value kind p state.Link q stands url link double single listed_double listed_single barred may = no (sym link ∙ may)
no_value kind p (Declarations part) q stands url link double single listed_double listed_single barred may = not_declared kind p part q double single barred may
no_value kind p (Listed part) q stands url link double single listed_double listed_single barred may = not_listed kind p part q listed_double listed_single barred may
no_value kind p other q stands url link double single listed_double listed_single barred may = no (sym barred ∙ may)

-- it stands in the code of a script, between words
pub record IsInScript (p : SlotPlace) (state : State) (content : Content) (attribute : Attribute) : Type 0 where
  pub place_is : p ≡ place.ScriptDouble
  pub state_is : state ≡ InCode Plain
  pub script : is_script content.element ≡ true
  pub attribute_is : attribute ≡ Ordinary

literal_in_code : (p : SlotPlace) (code : Code) (content : Content) (attribute : Attribute) → suits Literal p (in_code code content attribute) ≡ true →
    IsInScript p (InCode code) content attribute
literal_in_code p code content attribute may = grind (arith, nat_tests)

pub literal_in_script : (p : SlotPlace) (state : State) (content : Content) (attribute : Attribute) →
    suits Literal p (standing_in state content attribute) ≡ true → IsInScript p state content attribute
literal_in_script p (In q) content attribute may = absurd (no_value Literal p attribute q refl refl refl refl refl refl refl refl (in_any Literal p content.element (unless_forbidden attribute q) may))
literal_in_script p BeforeValue content Ordinary may = absurd (no may)
literal_in_script p BeforeValue content other may = absurd (no may)
literal_in_script p (InCode code) content attribute may = literal_in_code p code content attribute may
literal_in_script p elsewhere content attribute may = absurd (no may)

-- ---- a slot for JSON

-- it stands in a data block, behind white space alone
pub record IsInJson (p : SlotPlace) (state : State) (content : Content) (attribute : Attribute) : Type 0 where
  pub place_is : p ≡ place.Text
  pub state_is : state ≡ InCode code.Json
  pub script : is_script content.element ≡ true
  pub attribute_is : attribute ≡ Ordinary

json_in_code : (p : SlotPlace) (code : Code) (content : Content) (attribute : Attribute) → suits Json p (in_code code content attribute) ≡ true →
    IsInJson p (InCode code) content attribute
json_in_code p code content attribute may = grind (arith, nat_tests)

pub json_in_block : (p : SlotPlace) (state : State) (content : Content) (attribute : Attribute) →
    suits Json p (standing_in state content attribute) ≡ true → IsInJson p state content attribute
json_in_block p (In q) content attribute may = absurd (no_value Json p attribute q refl refl refl refl refl refl refl refl (in_any Json p content.element (unless_forbidden attribute q) may))
json_in_block p BeforeValue content Ordinary may = absurd (no may)
json_in_block p BeforeValue content other may = absurd (no may)
json_in_block p (InCode code) content attribute may = json_in_code p code content attribute may
json_in_block p elsewhere content attribute may = absurd (no may)

-- ---- a slot in a declaration

-- it stands in the value of one, between quote marks
pub record IsInDeclaration (p : SlotPlace) (state : State) (attribute : Attribute) : Type 0 where
  pub state_is : state ≡ In p
  pub attribute_is : attribute ≡ Declarations Value
  pub quoted : is_quoted p ≡ true

found_in_declaration : (p : SlotPlace) (part : StylePart) (q : SlotPlace) → suits StyleValue p (in_declaration part q) ≡ true →
    IsInDeclaration p (In q) (Declarations part)
found_in_declaration p Value place.DoubleQuoted may = record { state_is = ap In (sym (same_place p place.DoubleQuoted may)); attribute_is = refl; quoted = rw (same_place p place.DoubleQuoted may) refl }
found_in_declaration p Value place.SingleQuoted may = record { state_is = ap In (sym (same_place p place.SingleQuoted may)); attribute_is = refl; quoted = rw (same_place p place.SingleQuoted may) refl }
found_in_declaration p part q may = absurd (no may)

pub style_in_declaration : (p : SlotPlace) (state : State) (content : Content) (attribute : Attribute) →
    suits StyleValue p (standing_in state content attribute) ≡ true → IsInDeclaration p state attribute
style_in_declaration p (In q) content (Declarations part) may =
    found_in_declaration p part q (in_any StyleValue p content.element (in_declaration part q) may)
style_in_declaration p (In q) content (Listed part) may =
    absurd (not_listed StyleValue p part q refl refl refl (in_any StyleValue p content.element (in_list part q) may))
style_in_declaration p (In q) content other may = absurd (no (in_any StyleValue p content.element (unless_forbidden other q) may))
style_in_declaration p BeforeValue content Ordinary may = absurd (no may)
style_in_declaration p BeforeValue content other may = absurd (no may)
style_in_declaration p (InCode code) content attribute may = absurd (no_code StyleValue p code content attribute refl may)
style_in_declaration p elsewhere content attribute may = absurd (no may)

-- what is written there is the text itself
not_encoded : (class : Class) (text : List ℕ) → ((b : ℕ) → is_style_byte b ≡ true → in_class class b ≡ false) → list_all is_style_byte text ≡ true →
    encoding class text ≡ text
not_encoded class [] kept all = refl
not_encoded class (b ∷ text) kept all =
    let parts = and_parts (is_style_byte b) (list_all is_style_byte text) all in
    rw (kept b parts.0) (ap (λ more. b ∷ more) (not_encoded class text kept parts.1))

double_keeps : (b : ℕ) → is_style_byte b ≡ true → in_class class.DoubleQuotedAttribute b ≡ false
double_keeps b is = grind (arith, nat_tests)

single_keeps : (b : ℕ) → is_style_byte b ≡ true → in_class class.SingleQuotedAttribute b ≡ false
single_keeps b is = grind (arith, nat_tests)

style_passes : (p : SlotPlace) (content : Content) (text : List ℕ) → is_quoted p ≡ true → list_all is_style_byte text ≡ true →
    Passes (at_value (In p) content (Declarations Value)) (encoded (encoder_for p) text) (map (read_byte p) (read_back (encoder_for p) text)) (at_value (In p) content (Declarations Value))
style_passes place.DoubleQuoted content text quoted all =
    rw (not_encoded class.DoubleQuotedAttribute text double_keeps all) (style_text_stays place.DoubleQuoted content text refl all)
style_passes place.SingleQuoted content text quoted all =
    rw (not_encoded class.SingleQuotedAttribute text single_keeps all) (style_text_stays place.SingleQuoted content text refl all)
style_passes other content text quoted all = absurd (no quoted)

-- ---- a slot of any kind

pub slot_passes : (p : SlotPlace) (kind : SlotKind) (state : State) (content : Content) (attribute : Attribute) (text : List ℕ) →
    suits kind p (standing_in state content attribute) ≡ true → MayFill p kind text → IsUtf8 text →
    Passes (at_value state content attribute) (written p kind text) (slot_actions kind (map (read_byte p) (handed p kind text)))
    (past_slot p kind (at_value state content attribute))
slot_passes p Text state content attribute text may full utf8 = text_passes p state content attribute text may full utf8
slot_passes p (UrlPart slot) state content attribute text may full utf8 =
    let here = part_in_url slot p state content attribute may in
    rw here.state_is
    (component_stays p content attribute (component_at slot.place text) (λ b. component_settled (is_listed attribute) attribute b (open_so attribute here.attribute_is))
    (list_all_from_All is_written_byte (component_at slot.place text) (written_bytes slot.place text)))
slot_passes p Link state content attribute text may full utf8 =
    let here = link_in_url p state content attribute may in
    rw here.state_is (quoted_passes p content attribute text here.quoted here.attribute_is)
slot_passes p OwnPath state content attribute text may full utf8 =
    let here = own_in_url p state content attribute may in
    rw here.state_is (quoted_passes p content attribute text here.quoted here.attribute_is)
slot_passes p (Base behind) state content attribute text may full utf8 =
    let here = base_in_url true behind p state content attribute may in
    rw here.state_is (quoted_passes p content attribute text here.quoted here.attribute_is)
slot_passes p (OwnBase behind) state content attribute text may full utf8 =
    let here = base_in_url false behind p state content attribute may in
    rw here.state_is (quoted_passes p content attribute text here.quoted here.attribute_is)
slot_passes p Literal state content attribute text may full utf8 =
    let here = literal_in_script p state content attribute may in
    rw (here.place_is, here.state_is, here.attribute_is) (literal_passes content text here.script utf8)
slot_passes p Json state content attribute text may full utf8 =
    let here = json_in_block p state content attribute may in
    rw (here.place_is, here.state_is, here.attribute_is)
    (json_passes content (json_encoding (json_of text)) here.script (all_apart (json_of text)) (some_json text))
slot_passes p StyleValue state content attribute text may full utf8 =
    let here = style_in_declaration p state content attribute may in
    rw (here.state_is, here.attribute_is) (style_passes p content text here.quoted full)

all_refused : (chunks : List Chunk) → state_after_all refused chunks ≡ refused
all_refused [] = refl
all_refused (Markup bytes ∷ chunks) = ap (λ t. state_after_all t chunks) (stays_refused bytes) ∙ all_refused chunks
all_refused (Slot p Text ∷ chunks) = all_refused chunks
all_refused (Slot p (UrlPart slot) ∷ chunks) = all_refused chunks
all_refused (Slot p Link ∷ chunks) = all_refused chunks
all_refused (Slot p OwnPath ∷ chunks) = all_refused chunks
all_refused (Slot p (Base behind) ∷ chunks) = all_refused chunks
all_refused (Slot p (OwnBase behind) ∷ chunks) = all_refused chunks
all_refused (Slot p Literal ∷ chunks) = all_refused chunks
all_refused (Slot p Json ∷ chunks) = all_refused chunks
all_refused (Slot p StyleValue ∷ chunks) = all_refused chunks

apart : refused ≡ data_state → ⊥
apart is = let states : Refused ≡ In place.Text = ap (λ (t : Tokenizer). t.state) is in cc

-- a template that ends in the data state has each slot where one of its kind may stand
pub slot_suits : (p : SlotPlace) (kind : SlotKind) (t : Tokenizer) (chunks : List Chunk) →
    state_after_all (after_slot p kind t) chunks ≡ data_state → suits kind p (standing t) ≡ true
slot_suits p kind t chunks ends =
    elim (cases_Bool (suits kind p (standing t))) [ inl may ↦ may | inr not ↦ absurd (apart (sym (all_refused chunks) ∙ rw not at ends)) ]

pub pieces_pass : (chunks : List Chunk) (t : Tokenizer) (texts : List (List ℕ)) → state_after_all t chunks ≡ data_state →
    Fill chunks texts → AllByRecursion IsUtf8 texts → Passes t (page chunks texts) (actions_all t chunks texts) data_state
pieces_pass [] t texts ends fill utf8 = record { after = ends; actions = refl }
pieces_pass (Markup bytes ∷ chunks) t texts ends fill utf8 =
    passes_both (passes_itself t bytes) (pieces_pass chunks (state_after t bytes) texts ends fill utf8)
pieces_pass (Slot p kind ∷ chunks) t [] ends fill utf8 = absurd fill
pieces_pass (Slot p kind ∷ chunks) t (text ∷ texts) ends fill utf8 =
    let may = slot_suits p kind t chunks ends in
    let here : after_slot p kind t ≡ past_slot p kind t = rw may refl in
    passes_both (slot_passes p kind t.state t.content t.attribute text may fill.0 utf8.0)
    (rw here (pieces_pass chunks (past_slot p kind t) texts (rw here at ends) fill.1 utf8.1))
