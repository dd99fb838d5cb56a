-- What the names of attributes, and the values of some of them, mean to the tokenizer.
pub mod Encodings
pub mod ListParts
pub mod StyleParts
use Rattle.std.specs.Prelude.{ℕ, Bool, true, false, ◌&&◌, ◌||◌, not, List, [], ◌∷◌, ◌++◌, ◌+◌, ◌-◌, ◌==◌, Option, Some, None, if◌then◌else◌, bytes_eq, codes}
use Rattle.std.specs.Char.{to_ascii_lowercase}
use Rattle.std.specs.List.{list_all}
use Rattle.hesc_specs.specs.Text.Ascii.{less_than}
use Rattle.hesc_specs.specs.Text.Words.{begins}
use Rattle.html_tokenizer.specs.declared.elements.Content.{Content}
use Rattle.html_tokenizer.specs.declared.states.ListPart.TheVariants as list
use Rattle.html_tokenizer.specs.declared.states.StylePart.TheVariants as style
use Rattle.html_tokenizer.specs.Declarations.{is_word_byte}
use Rattle.html_tokenizer.specs.declared.elements.OpenElement.{OpenElement}
use Rattle.html_tokenizer.specs.declared.elements.OpenElement.TheVariants.{Normal, ResourceTag, Script, TypedScript, DataBlock, JsonBlock, Meta, MetaContent, MetaPragma, MetaType, LinkTag, EmbedTag, SvgAnimationTag, SvgEmbedTag, MathEmbedTag, SelectEmbedTag, NoScript, NoScriptStyle, NoScriptFrame}
use Rattle.html_tokenizer.specs.Tokenizer.Attributes.ListParts.{fixed_part, list_read, list_reference}
use Rattle.html_tokenizer.specs.Tokenizer.Attributes.StyleParts.{declarations_read}
use Rattle.html_tokenizer.specs.Tokenizer.Attributes.Encodings.{is_utf_8, names_no_other}
use Rattle.html_tokenizer.specs.Tokenizer.States.{Tokenizer, Attribute, Ordinary, Forbidden, Declarations, Listed, Link, Url, FixedUrl, RawUrl, FixedRawUrl, ScriptType, Encoding, Pragma, PageType, Relation, Unread, Raw, BeforeValue, at_value, refused}
use Rattle.html_tokenizer.specs.Tokenizer.Elements.{with_element}

-- event handlers and pages
abbrev pub holds_language : List ℕ → Bool
holds_language name = begins (codes "on") name || bytes_eq name (codes "srcdoc")

-- CSS Style Attributes, 3 Syntax and Parsing: its value is a list of declarations
abbrev pub holds_declarations : List ℕ → Bool
holds_declarations name = bytes_eq name (codes "style")

abbrev pub holds_url : List ℕ → Bool
holds_url name =
    bytes_eq name (codes "href") || bytes_eq name (codes "src") || bytes_eq name (codes "action") ||
    bytes_eq name (codes "formaction") || bytes_eq name (codes "data") ||
    bytes_eq name (codes "xlink:href") || bytes_eq name (codes "poster") || bytes_eq name (codes "cite") ||
    bytes_eq name (codes "background") || bytes_eq name (codes "longdesc") ||
    bytes_eq name (codes "manifest") || bytes_eq name (codes "codebase")

-- 4.8.4.2.1 Srcset attributes: its value is a list of URLs of images
abbrev pub holds_images : List ℕ → Bool
holds_images name = bytes_eq name (codes "srcset") || bytes_eq name (codes "imagesrcset")

-- other lists of URLs: 4.6.2 Links created by a and area elements
abbrev pub holds_urls : List ℕ → Bool
holds_urls name = bytes_eq name (codes "ping") || bytes_eq name (codes "archive") || bytes_eq name (codes "attributionsrc")

-- values that decide what runs: a framed page's scripts, in this page's origin too, and what else it may do (4.8.5 The
-- iframe element); what an `embed` or an `object` runs (4.8.6, 4.8.7); the event at which an old script is run
-- (4.12.1); the class whose constructor is called (4.13 Custom elements); that the content of a `template` is its
-- parent's tree, and with which styles (4.12.3); an encoding
abbrev pub is_switch : List ℕ → Bool
is_switch name =
    bytes_eq name (codes "sandbox") || bytes_eq name (codes "allow") || bytes_eq name (codes "csp") ||
    bytes_eq name (codes "code") || bytes_eq name (codes "classid") || bytes_eq name (codes "event") ||
    bytes_eq name (codes "is") || bytes_eq name (codes "shadowrootmode") || bytes_eq name (codes "shadowroot") ||
    bytes_eq name (codes "shadowrootadoptedstylesheets") || bytes_eq name (codes "charset")

abbrev pub attribute_of : List ℕ → Attribute
attribute_of name =
    if holds_language name || is_switch name || holds_urls name then Forbidden
    else (if holds_url name then Url
    else (if holds_declarations name then Declarations style.BeforeName
    else (if holds_images name then Listed list.BeforeUrl
    else Ordinary)))

-- the same where the element only shows or follows its URLs
abbrev pub followed : Attribute → Attribute
followed Url = Link
followed other = other

-- the attributes that say in which language a script is: 4.12.1.1 Processing model of script
abbrev pub names_script_type : List ℕ → Bool
names_script_type name = bytes_eq name (codes "type") || bytes_eq name (codes "language")

-- the type of a script that is in JavaScript
abbrev pub is_javascript : List ℕ → Bool
is_javascript type =
    bytes_eq type [] || bytes_eq type (codes "module") ||
    bytes_eq type (codes "text/javascript") || bytes_eq type (codes "application/javascript")

-- the type of a data block of JSON: 4.12.1, RFC 8259, 11 IANA Considerations; JSON-LD 1.1, 7 Embedding JSON-LD in HTML Documents
abbrev pub is_json : List ℕ → Bool
is_json type = bytes_eq type (codes "application/json") || bytes_eq type (codes "application/ld+json")

-- 4.6.7 Link types: the `rel` of a `link` whose URL is only shown, or followed by the reader
abbrev pub is_shown_relation : List ℕ → Bool
is_shown_relation relation =
    bytes_eq relation (codes "alternate") || bytes_eq relation (codes "author") || bytes_eq relation (codes "canonical") ||
    bytes_eq relation (codes "help") || bytes_eq relation (codes "icon") || bytes_eq relation (codes "shortcut icon") ||
    bytes_eq relation (codes "apple-touch-icon") || bytes_eq relation (codes "license") || bytes_eq relation (codes "next") ||
    bytes_eq relation (codes "prev") || bytes_eq relation (codes "search")

-- the attributes of a `meta` by which a page names its encoding, or has a header of its own: 4.2.5 The meta element
abbrev pub is_charset : List ℕ → Bool
is_charset name = bytes_eq name (codes "charset")

abbrev pub is_http_equiv : List ℕ → Bool
is_http_equiv name = bytes_eq name (codes "http-equiv")

abbrev pub is_content : List ℕ → Bool
is_content name = bytes_eq name (codes "content")

abbrev pub is_script_tag : OpenElement → Bool
is_script_tag Script = true
is_script_tag TypedScript = true
is_script_tag DataBlock = true
is_script_tag JsonBlock = true
is_script_tag other = false

-- after the `=` of an attribute whose value means the same in each element
abbrev pub plain_value : Content → List ℕ → Tokenizer
plain_value content name = at_value BeforeValue content (attribute_of name)

abbrev pub forbidden_value : Content → Tokenizer
forbidden_value content = at_value BeforeValue content Forbidden

-- the same but of this attribute
abbrev pub value_but_of : List ℕ → Content → List ℕ → Tokenizer
value_but_of barred content name = if bytes_eq name barred then forbidden_value content else plain_value content name

-- of a `meta` of which this is the value of `http-equiv`, of `content`, and else
abbrev pub meta_value : Tokenizer → Tokenizer → Content → List ℕ → Tokenizer
meta_value pragma described content name =
    if is_charset name then at_value BeforeValue content (Encoding [])
    else (if is_http_equiv name then pragma
    else (if is_content name then described
    else plain_value content name))

-- in a `noscript`: a `meta` there would name an encoding, or have a header, where no scripts run alone
abbrev pub raw_value : Content → List ℕ → Tokenizer
raw_value content name =
    if is_charset name || is_http_equiv name then refused
    else at_value BeforeValue content (if holds_url name then RawUrl else Raw)

-- of a `link`
abbrev pub resource_value : Content → List ℕ → Tokenizer
resource_value content name =
    if bytes_eq name (codes "rel") then at_value BeforeValue content (Relation []) else plain_value content name

-- of an animation in an `svg`: what it sets is fixed by markup
abbrev pub animation_value : Content → List ℕ → Tokenizer
animation_value content name =
    if bytes_eq name (codes "attributename") then at_value BeforeValue content (Pragma []) else forbidden_value content

-- of a script behind its type, which is the one that counts: 13.2.5.33 Attribute name state
abbrev pub typed_value : Content → List ℕ → Tokenizer
typed_value content name =
    if names_script_type name then forbidden_value (with_element content DataBlock) else value_but_of (codes "for") content name

-- behind an attribute of this name without a value: the type of a script is then JavaScript's
abbrev pub without_value_in : OpenElement → Content → List ℕ → Content
without_value_in Script content name = if bytes_eq name (codes "type") then with_element content TypedScript else content
without_value_in other content name = content

abbrev pub without_value : Content → List ℕ → Content
without_value content name = without_value_in content.element content name

-- after the `=` of an attribute: a script is a data block unless its one type is JavaScript's, and with a `for` other
-- than `window` it is passed over (4.12.1); a `meta` has one `http-equiv`; of the `type` `text/html` an `embed` or an
-- `object` runs its resource as a page (4.8.6, 4.8.7); the first `rel` of a `link` says what it is to the page (4.2.4)
abbrev pub value_in : OpenElement → Content → List ℕ → Tokenizer
value_in Script content name =
    if bytes_eq name (codes "type") then at_value BeforeValue (with_element content DataBlock) (ScriptType [])
    else (if names_script_type name then forbidden_value (with_element content DataBlock)
    else value_but_of (codes "for") content name)
value_in TypedScript content name = typed_value content name
value_in DataBlock content name = typed_value content name
value_in JsonBlock content name = typed_value content name
value_in Meta content name =
    meta_value (at_value BeforeValue (with_element content MetaPragma) (Pragma [])) (plain_value (with_element content MetaContent) name) content name
value_in MetaContent content name = meta_value (at_value BeforeValue content (Pragma [])) (plain_value content name) content name
value_in MetaPragma content name = meta_value refused (forbidden_value content) content name
value_in MetaType content name = meta_value refused (at_value BeforeValue content (PageType [])) content name
value_in EmbedTag content name = value_but_of (codes "type") content name
value_in SvgEmbedTag content name = value_but_of (codes "type") content name
value_in MathEmbedTag content name = value_but_of (codes "type") content name
value_in SelectEmbedTag content name = value_but_of (codes "type") content name
value_in SvgAnimationTag content name = animation_value content name
value_in LinkTag content name = at_value BeforeValue content (followed (attribute_of name))
value_in ResourceTag content name = resource_value content name
value_in NoScript content name = raw_value content name
value_in NoScriptStyle content name = raw_value content name
value_in NoScriptFrame content name = raw_value content name
value_in other content name = plain_value content name

abbrev pub value_of : Content → List ℕ → Tokenizer
value_of content name = value_in content.element content name

-- headers of caches, which are no pragma directives: no user agent takes them from a `meta`
abbrev pub is_cache_header : List ℕ → Bool
is_cache_header name =
    bytes_eq name (codes "cache-control") || bytes_eq name (codes "expires") || bytes_eq name (codes "last-modified") ||
    bytes_eq name (codes "pragma")

-- SVG 1.1, 19.2.5 Attributes to identify the target attribute or property for an animation: with the values that the tag fixes it sets one of these
-- in place of what a text may say, and they are no code. Not so a `href`, by which a fixed value may take the place of another URL and run, also
-- with a prefix or white space around it; nor an event handler
abbrev pub is_set_safely : List ℕ → Bool
is_set_safely name = list_all is_word_byte name && not (begins (codes "on") name || bytes_eq name (codes "href"))

-- after the value of an `http-equiv`: 4.2.5.3 Pragma directives. Behind a `content`, in which a slot may have stood,
-- only those that user agents ignore, or are required to; behind one that they ignore a slot may stand in the `content`
abbrev pub content_after_pragma : OpenElement → Content → List ℕ → Option Content
content_after_pragma MetaContent content name =
    if bytes_eq name (codes "x-ua-compatible") || is_cache_header name then Some (with_element content MetaPragma) else None
content_after_pragma SvgAnimationTag content name = if is_set_safely name then Some content else None
content_after_pragma other content name =
    if bytes_eq name (codes "content-type") then Some (with_element content MetaType)
    else (if is_cache_header name then Some (with_element content MetaContent)
    else Some content)

-- after the type of a script
abbrev pub after_script_type : Content → List ℕ → Content
after_script_type content type =
    if is_javascript type then with_element content TypedScript
    else (if is_json type then with_element content JsonBlock
    else content)

-- after the value of an attribute, if the profile has it
abbrev pub content_after : Content → Attribute → Option Content
content_after content (ScriptType type) = Some (after_script_type content type)
content_after content (Encoding label) = if is_utf_8 label then Some content else None
content_after content (Pragma name) = content_after_pragma content.element content name
content_after content (PageType value) = if names_no_other value then Some content else None
content_after content (Relation relation) = Some (with_element content (if is_shown_relation relation then LinkTag else Normal))
content_after content Unread = None
content_after content other = Some content

-- after one byte more of an attribute's value
abbrev pub value_byte_read : Attribute → ℕ → Attribute
value_byte_read Ordinary b = Ordinary
value_byte_read Forbidden b = Forbidden
value_byte_read (Declarations part) b = Declarations (declarations_read part b)
value_byte_read (Listed part) b = Listed (list_read part b)
value_byte_read Link b = Link
value_byte_read Url b = Url
value_byte_read FixedUrl b = FixedUrl
value_byte_read RawUrl b = RawUrl
value_byte_read FixedRawUrl b = FixedRawUrl
value_byte_read (ScriptType type) b = ScriptType (type ++ to_ascii_lowercase b ∷ [])
value_byte_read (Encoding label) b = Encoding (label ++ to_ascii_lowercase b ∷ [])
value_byte_read (Pragma name) b = Pragma (name ++ to_ascii_lowercase b ∷ [])
value_byte_read (PageType value) b = PageType (value ++ to_ascii_lowercase b ∷ [])
value_byte_read (Relation relation) b = Relation (relation ++ to_ascii_lowercase b ∷ [])
value_byte_read Unread b = Unread
value_byte_read Raw b = if b == less_than then Unread else Raw

-- a byte with which the end tag of a `noscript` may begin, where scripts run (13.2.5.12): refused in a URL at once, since a slot may follow
abbrev pub may_end_raw : Attribute → ℕ → Bool
may_end_raw RawUrl b = b == less_than
may_end_raw FixedRawUrl b = b == less_than
may_end_raw other b = false

-- in a reference or an escape, whose character the profile does not add to what it holds of the value
abbrev pub reference_read : Attribute → Attribute
reference_read Ordinary = Ordinary
reference_read (Declarations part) = Declarations style.Opaque
reference_read (Listed part) = Listed (list_reference part)
reference_read Link = Link
reference_read Url = Url
reference_read FixedUrl = FixedUrl
reference_read RawUrl = RawUrl
reference_read FixedRawUrl = FixedRawUrl
reference_read (Encoding label) = Unread
reference_read (Pragma name) = Unread
reference_read (PageType value) = Unread
reference_read Unread = Unread
reference_read Raw = Raw
reference_read other = Forbidden

-- the same where the value takes no slot any more
abbrev pub fixed : Attribute → Attribute
fixed Ordinary = Forbidden
fixed (Declarations part) = Declarations style.Opaque
fixed (Listed part) = Listed (fixed_part part)
fixed Link = FixedUrl
fixed Url = FixedUrl
fixed RawUrl = FixedRawUrl
fixed other = other
