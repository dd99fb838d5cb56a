-- What bytes and references make of the value of a URL, and of a list of them; and it may end anywhere.
use Rattle.std.proofs.Common.{ℕ, ◌≡◌, Bool, true, false, ◌&&◌, ◌==◌, List, Some, if◌then◌else◌, bytes_eq, codes, refl, ◌∙◌, sym, ⊎_elim}
use Rattle.std.proofs.lemmas.Bool.{cases_Bool, false≢true, or_parts, true≢false}
use Rattle.html_tokenizer.specs.declared.elements.Content.{Content}
use Rattle.html_tokenizer.specs.declared.states.ListPart.{ListPart}
use Rattle.html_tokenizer.specs.declared.states.ListPart.TheVariants as list
use Rattle.html_tokenizer.specs.Declarations.{comma, is_blank}
use Rattle.html_tokenizer.specs.Tokenizer.Attributes.{content_after, fixed, reference_read, value_byte_read}
use Rattle.html_tokenizer.specs.Tokenizer.Attributes.ListParts.{fixed_part, is_in_listed_url, is_list_mark, list_read}
use Rattle.html_tokenizer.specs.Tokenizer.Code.Characters.{opening_parenthesis}
use Rattle.html_tokenizer.specs.Tokenizer.States.{Attribute, FixedRawUrl, FixedUrl, Link, Listed, Ordinary, RawUrl, Url}
use Rattle.html_tokenizer.specs.Tokenizer.Values.References.{begins_with_legacy, behind_reference, behind_word}
use Rattle.html_tokenizer.specs.UrlValues.{is_of_urls, is_url}

abbrev pub is_listed : Attribute → Bool
is_listed (Listed part) = true
is_listed other = false

-- a URL is open: one of a list, or one that is the value
abbrev pub is_open : Bool → Attribute → Bool
is_open true (Listed part) = is_in_listed_url part
is_open true other = false
is_open false (Listed part) = false
is_open false other = is_url other

pub url_of_urls : (attribute : Attribute) → is_url attribute ≡ true → is_of_urls attribute ≡ true
url_of_urls (Listed part) is = refl
url_of_urls other is = is

pub no_url_of_none : (attribute : Attribute) → is_of_urls attribute ≡ false → is_url attribute ≡ false
no_url_of_none (Listed part) none = absurd (true≢false none)
no_url_of_none other none = none

pub open_url_is : (listed : Bool) (attribute : Attribute) → is_open listed attribute ≡ true → is_url attribute ≡ true
open_url_is true (Listed part) is = is
open_url_is true other is = absurd (false≢true is)
open_url_is false (Listed part) is = absurd (false≢true is)
open_url_is false other is = is

pub of_open : (attribute : Attribute) → is_open false attribute ≡ true → is_of_urls attribute ≡ true
of_open attribute is = url_of_urls attribute (open_url_is false attribute is)

pub open_so : (attribute : Attribute) → is_url attribute ≡ true → is_open (is_listed attribute) attribute ≡ true
open_so (Listed part) is = is
open_so other is = is

pub open_is_listed : (listed : Bool) (attribute : Attribute) → is_open listed attribute ≡ true → is_listed attribute ≡ listed
open_is_listed true (Listed part) is = refl
open_is_listed true other is = absurd (false≢true is)
open_is_listed false (Listed part) is = absurd (false≢true is)
open_is_listed false other is = refl

pub whole_open : (attribute : Attribute) → is_of_urls attribute ≡ true → is_listed attribute ≡ false → is_open false attribute ≡ true
whole_open (Listed part) of none = absurd (true≢false none)
whole_open other of none = of

fixed_of_urls : (attribute : Attribute) → is_of_urls (fixed attribute) ≡ is_of_urls attribute
fixed_of_urls Ordinary = refl
fixed_of_urls other = refl

either_of_urls : (test : Bool) (attribute : Attribute) → is_of_urls (if test then fixed attribute else attribute) ≡ is_of_urls attribute
either_of_urls true attribute = fixed_of_urls attribute
either_of_urls false attribute = refl

pub word_of_urls : (word : List ℕ) (attribute : Attribute) → is_of_urls (behind_word word attribute) ≡ is_of_urls attribute
word_of_urls word attribute = either_of_urls (begins_with_legacy word) attribute

pub read_of_urls : (word : List ℕ) (attribute : Attribute) → is_of_urls (behind_reference word attribute) ≡ is_of_urls attribute
read_of_urls word (Listed part) = refl
read_of_urls word other = refl

-- ---- within a URL that is open

-- a byte that cuts no list leaves it open
pub byte_settled : (listed : Bool) (attribute : Attribute) (b : ℕ) → is_open listed attribute ≡ true → (listed && is_list_mark b) ≡ false →
    value_byte_read attribute b ≡ attribute
byte_settled true (Listed list.Url) b is none = let parts = or_parts (is_blank b) (b == comma) none in rw (parts.1, parts.0) refl
byte_settled true (Listed list.FixedUrl) b is none = rw none refl
byte_settled true (Listed other) b is none = absurd (false≢true is)
byte_settled true other b is none = absurd (false≢true is)
byte_settled false Url b is none = refl
byte_settled false Link b is none = refl
byte_settled false FixedUrl b is none = refl
byte_settled false RawUrl b is none = refl
byte_settled false FixedRawUrl b is none = refl
byte_settled false other b is none = absurd (false≢true is)

pub reference_settled : (listed : Bool) (attribute : Attribute) → is_open listed attribute ≡ true → reference_read attribute ≡ attribute
reference_settled true (Listed list.Url) is = refl
reference_settled true (Listed list.FixedUrl) is = refl
reference_settled true (Listed other) is = absurd (false≢true is)
reference_settled true other is = absurd (false≢true is)
reference_settled false Url is = refl
reference_settled false Link is = refl
reference_settled false FixedUrl is = refl
reference_settled false RawUrl is = refl
reference_settled false FixedRawUrl is = refl
reference_settled false other is = absurd (false≢true is)

pub amp_settled : (attribute : Attribute) → behind_reference (codes "amp") attribute ≡ attribute
amp_settled (Listed part) = refl
amp_settled other = refl

pub whole_behind : (attribute : Attribute) → is_open false attribute ≡ true → (word : List ℕ) → behind_reference word attribute ≡ attribute
whole_behind (Listed part) is word = absurd (false≢true is)
whole_behind other is word = refl

fixed_open : (listed : Bool) (attribute : Attribute) → is_open listed (fixed attribute) ≡ is_open listed attribute
fixed_open true (Listed list.Url) = refl
fixed_open true (Listed other) = refl
fixed_open true Ordinary = refl
fixed_open true other = refl
fixed_open false (Listed part) = refl
fixed_open false Ordinary = refl
fixed_open false other = refl

either_open : (listed test : Bool) (attribute : Attribute) → is_open listed (if test then fixed attribute else attribute) ≡ is_open listed attribute
either_open listed true attribute = fixed_open listed attribute
either_open listed false attribute = refl

pub behind_open : (listed : Bool) (word : List ℕ) (attribute : Attribute) → is_open listed (behind_word word attribute) ≡ is_open listed attribute
behind_open listed word attribute = either_open listed (begins_with_legacy word) attribute

-- ---- in the value, where a URL is open or not

pub ends_settled : (content : Content) (attribute : Attribute) → is_of_urls attribute ≡ true → content_after content attribute ≡ Some content
ends_settled content Url is = refl
ends_settled content Link is = refl
ends_settled content FixedUrl is = refl
ends_settled content RawUrl is = refl
ends_settled content FixedRawUrl is = refl
ends_settled content (Listed part) is = refl
ends_settled content other is = absurd (false≢true is)

-- a slot may stand in a URL of the list, or in the next one, before any white space and comma
abbrev pub is_going : Attribute → Bool
is_going (Listed list.BeforeUrl) = true
is_going (Listed list.Url) = true
is_going other = false

-- the value is of URLs, is a list as this says, and goes on only if that is true
pub record Before (listed going : Bool) (attribute : Attribute) : Type 0 where
  pub of : is_of_urls attribute ≡ true
  pub same : is_listed attribute ≡ listed
  pub goes : is_going attribute ≡ true → going ≡ true

pub before_itself : (attribute : Attribute) → is_of_urls attribute ≡ true → Before (is_listed attribute) (is_going attribute) attribute
before_itself attribute of = record { of = of; same = refl; goes = λ is. is }

reference_going : (part : ListPart) → is_going (reference_read (Listed part)) ≡ true → is_going (Listed part) ≡ true
reference_going list.Url is = refl
reference_going list.FixedUrl is = absurd (false≢true is)
reference_going other is = absurd (false≢true is)

pub reference_before : {listed going : Bool} (attribute : Attribute) → Before listed going attribute → Before listed going (reference_read attribute)
reference_before (Listed part) before = record { of = refl; same = before.same; goes = λ is. before.goes (reference_going part is) }
reference_before Url before = before
reference_before Link before = before
reference_before FixedUrl before = before
reference_before RawUrl before = before
reference_before FixedRawUrl before = before
reference_before other before = absurd (false≢true before.of)

fixed_going : (part : ListPart) → is_going (Listed (fixed_part part)) ≡ true → is_going (Listed part) ≡ true
fixed_going list.Url is = absurd (false≢true is)
fixed_going other is = is

fixed_before : {listed going : Bool} (attribute : Attribute) → Before listed going attribute → Before listed going (fixed attribute)
fixed_before (Listed part) before = record { of = refl; same = before.same; goes = λ is. before.goes (fixed_going part is) }
fixed_before Url before = record { of = refl; same = before.same; goes = λ is. absurd (false≢true is) }
fixed_before Link before = record { of = refl; same = before.same; goes = λ is. absurd (false≢true is) }
fixed_before FixedUrl before = before
fixed_before RawUrl before = record { of = refl; same = before.same; goes = λ is. absurd (false≢true is) }
fixed_before FixedRawUrl before = before
fixed_before other before = absurd (false≢true before.of)

either_before : {listed going : Bool} (test : Bool) (attribute : Attribute) → Before listed going attribute →
    Before listed going (if test then fixed attribute else attribute)
either_before true attribute before = fixed_before attribute before
either_before false attribute before = before

pub word_before : {listed going : Bool} (word : List ℕ) (attribute : Attribute) → Before listed going attribute → Before listed going (behind_word word attribute)
word_before word attribute before = either_before (begins_with_legacy word) attribute before

either_part : {listed going : Bool} (test : Bool) (part : ListPart) → Before listed going (Listed part) →
    Before listed going (Listed (if test then part else list.Rest))
either_part true part before = before
either_part false part before = record { of = refl; same = before.same; goes = λ is. absurd (false≢true is) }

pub read_before : {listed going : Bool} (word : List ℕ) (attribute : Attribute) → Before listed going attribute → Before listed going (behind_reference word attribute)
read_before word (Listed part) before = either_part (bytes_eq word (codes "amp")) part before
read_before word other before = before

-- ---- after a byte

no_descriptor : (b : ℕ) → is_going (Listed (if b == opening_parenthesis then list.Rest else list.Descriptors)) ≡ false
no_descriptor b =
    ⊎_elim
    (λ (begins : (b == opening_parenthesis) ≡ true). rw begins refl)
    (λ (other : (b == opening_parenthesis) ≡ false). rw other refl)
    (cases_Bool (b == opening_parenthesis))

pub byte_going : (part : ListPart) (b : ℕ) → is_going (Listed (list_read part b)) ≡ true → is_list_mark b ≡ false → is_going (Listed part) ≡ true
byte_going list.BeforeUrl b is none = refl
byte_going list.Url b is none = refl
byte_going list.FixedUrl b is none = absurd (false≢true (rw none at is))
byte_going list.Comma b is none = let parts = or_parts (is_blank b) (b == comma) none in absurd (false≢true (rw (parts.1, parts.0) at is))
byte_going list.Descriptors b is none =
    let parts = or_parts (is_blank b) (b == comma) none in
    absurd (true≢false (sym (rw parts.1 at is) ∙ no_descriptor b))
byte_going list.Rest b is none = absurd (false≢true is)
