-- The next change of an encoder, from the first place at which something that it replaces begins.
use Rattle.std.proofs.Common.{◌≡◌, ℕ, ◌+◌, ◌≤◌, ◌<◌, ◌==◌, true, false, not, ◌||◌, List, [], Option, Some, None, if◌then◌else◌, drop, length, slice_index, ne_eqb, refl, subst, sym, ap, ap₂, ◌∙◌, arith, inl, inr}
use Rattle.std.specs.Str.{IsCharBoundary, IsUtf8}
use Rattle.std.proofs.lemmas.Bool.{and_parts, cases_Bool, cases_lt}
use Rattle.std.proofs.lemmas.List.{drop_all, drop_more}
use Rattle.std.proofs.lemmas.Str.{IsCharBoundary-after_ascii, IsCharBoundary-before_ascii, encode_ascii}
use Rattle.std.proofs.Math.Bool.{and-false, or-true}
use Rattle.hesc_specs.specs.Html.{reference_to}
use Rattle.hesc_specs.specs.Text.Classes.{IsHtml, element_of, in_class, separator_lead, string_class}
use Rattle.hesc_specs.specs.Text.Escaped.{escape_changes}
use Rattle.hesc_specs.specs.Text.EscapedPlaces.{completes_separator, escapes_at}
use Rattle.hesc_specs.specs.Text.FirstPlace.{IsFirstAt, IsFirstPlace}
use Rattle.hesc_specs.specs.Strings.Changes.{character_end}
use Rattle.hesc_specs.specs.Strings.Encoding.{line_separator, paragraph_separator, string_escape}
use Rattle.hesc_specs.specs.declared.classes.Class.{Class}
use Rattle.hesc_specs.specs.declared.elements.Element.{Element}
use Rattle.hesc_specs.specs.declared.elements.Element.TheVariants.{Script}
use Rattle.hesc_specs.specs.declared.quotes.Quotes.{Quotes}
use Rattle.hesc_specs.proofs.Html.Changes.{next-html_changes, no-html_changes}
use Rattle.hesc_specs.proofs.Html.Images.{in_class_is_ascii}
use Rattle.hesc_specs.proofs.Text.EscapeChanges.{element_of-some}
use Rattle.hesc_specs.proofs.Strings.EncodingChanges.{FirstEscaped, ascii_character, next-string_encoding_changes, no-string_encoding_changes, separator_character}
use Rattle.hesc_engine.specs.Next.{IsChangeAt, IsNext}
use Rattle.hesc_engine.specs.Text.{replacement_bytes}
use Rattle.hesc_sinks.specs.declared.found.Replacement.{Replacement}

-- what was found is the change of the first replaced character
is_next : (class : Class) (element : Element) (quotes : Quotes) → string_class class ≡ Some (element, quotes)
    → (source : List ℕ) (from at end : ℕ) (replacement : Replacement) (first : FirstEscaped element quotes source from at) → from ≤ at → at < end
    → character_end at first.character ≡ end → replacement_bytes replacement ≡ string_escape element first.character
    → IsNext source from (escape_changes class source) record { start = at; end = end; replacement = replacement }
is_next class element quotes is source from at end replacement first after moves ends escapes = record {
  after = after;
  ordered = omega (arith, moves);
  moves = omega (arith, moves, after);
  within = omega (arith, ends, first.within);
  start_boundary = first.start_boundary;
  end_boundary = subst (IsCharBoundary source) ends first.end_boundary;
  changes = rw (← ends, is, escapes) first.changes;
}

module _ (class : Class) (element : Element) (is : element_of class ≡ Some element) (source : List ℕ) (text : IsUtf8 source) (from at : ℕ)
    (first : IsFirstAt (escapes_at class source) from (length source) at) (boundary : IsCharBoundary source from) where
  quotes : Quotes
  quotes = (element_of-some class element is).0

  is_string : string_class class ≡ Some (element, quotes)
  unfolding quotes
  is_string = (element_of-some class element is).1

  escape : at < length source → FirstEscaped element quotes source from at
  escape within = next-string_encoding_changes class element quotes is_string source text from at first boundary within

  pub none_left : at ≡ length source → escape_changes class source from ≡ []
  none_left is_end = rw is_string (no-string_encoding_changes class element quotes is_string source text from at first boundary is_end)

  -- the three bytes of a separator
  pub separator_is_next : at < length source → slice_index source at ≡ separator_lead → (replacement : Replacement)
      → replacement_bytes replacement ≡ string_escape Script (if slice_index source (at + 2) == 0xA8 then line_separator else paragraph_separator)
      → IsNext source from (escape_changes class source) record { start = at; end = at + 3; replacement = replacement }
  separator_is_next within lead replacement escapes =
      let separator = separator_character (escape within) lead in
      is_next class element quotes is_string source from at (at + 3) replacement (escape within) first.ordered (omega arith) separator.1.1
      (escapes ∙ ap₂ string_escape (sym separator.0) (sym separator.1.0))

  -- the one byte of any other
  ends_after_byte : (within : at < length source) → (slice_index source at ≡ separator_lead → ⊥) → character_end at (escape within).character ≡ at + 1
  ends_after_byte within other = ap (λ bytes. at + length bytes) (encode_ascii (escape within).character (ascii_character (escape within) other).1)

  pub byte_is_next : at < length source → (slice_index source at ≡ separator_lead → ⊥) → (replacement : Replacement)
      → replacement_bytes replacement ≡ string_escape element (slice_index source at)
      → IsNext source from (escape_changes class source) record { start = at; end = at + 1; replacement = replacement }
  byte_is_next within other replacement escapes =
      is_next class element quotes is_string source from at (at + 1) replacement (escape within) first.ordered (omega arith) (ends_after_byte within other)
      (escapes ∙ ap (string_escape element) (sym (ascii_character (escape within) other).0))

-- an HTML encoder replaces each byte of its class
html_begins : (class : Class) → IsHtml class → (source : List ℕ) (place : ℕ) → place < length source → escapes_at class source place ≡ in_class class (slice_index source place)
html_begins class html source place within =
    rw (drop_more source place 0 within)
    (elim (cases_Bool (in_class class (slice_index source place))) [
      | inl hit ↦ rw (hit, ne_eqb (slice_index source place) separator_lead (λ is. omega (arith, is, in_class_is_ascii class (slice_index source place) html hit))) refl
      | inr other ↦ rw other refl
    ])

html_first : (class : Class) → IsHtml class → (source : List ℕ) (from place : ℕ) → IsFirstAt (escapes_at class source) from (length source) place → IsFirstPlace (in_class class) source from place
html_first class html source from place first = record {
  ordered = first.ordered;
  in_range = first.in_range;
  before = λ k after below. rw (html_begins class html source k (omega (arith, below, first.in_range))) at (first.before k after below);
  found = λ within. rw (html_begins class html source place within) at (first.found within);
}

-- what is replaced begins with a byte of the class
pub begins_sought : (class : Class) (source : List ℕ) (place : ℕ) → escapes_at class source place ≡ true → (place < length source) × (in_class class (slice_index source place) ≡ true)
begins_sought class source place begins =
    elim (cases_lt place (length source)) [
      | inl within ↦
          (within, (and_parts (in_class class (slice_index source place)) (not (slice_index source place == separator_lead) || completes_separator (drop (place + 1) source)) (rw (drop_more source place 0 within) at begins)).0)
      | inr past ↦ let clash : false ≡ true = rw (drop_all place source past) at begins in absurd (cc)
    ]

-- where nothing that is replaced begins, nothing changes
ends_in : (class : Class) (strings : Option (Element × Quotes)) → string_class class ≡ strings → (source : List ℕ) → IsUtf8 source → (from : ℕ) → IsCharBoundary source from
    → IsFirstAt (escapes_at class source) from (length source) (length source) → escape_changes class source from ≡ []
ends_in class None is source text from boundary none = rw is (no-html_changes class source from (length source) (html_first class is source from (length source) none) refl)
ends_in class (Some s) is source text from boundary none = none_left class s.0 (rw is refl) source text from (length source) none boundary refl

pub ends_of : (class : Class) (source : List ℕ) → IsUtf8 source → (from : ℕ) → IsCharBoundary source from
    → IsFirstAt (escapes_at class source) from (length source) (length source) → escape_changes class source from ≡ []
ends_of class source text from boundary none = ends_in class (string_class class) refl source text from boundary none

-- a byte that begins no separator is replaced alone
begins_byte : (class : Class) (source : List ℕ) (place : ℕ) → place < length source → in_class class (slice_index source place) ≡ true → slice_index source place < 128 → escapes_at class source place ≡ true
begins_byte class source place within hit ascii = rw (drop_more source place 0 within, hit, ne_eqb (slice_index source place) separator_lead (λ is. omega (arith, is, ascii))) refl

pub byte_at : (class : Class) (element : Element) → element_of class ≡ Some element → (source : List ℕ) → IsUtf8 source → (place : ℕ) → place < length source → in_class class (slice_index source place) ≡ true
    → slice_index source place < 128 → (replacement : Replacement) → replacement_bytes replacement ≡ string_escape element (slice_index source place)
    → IsChangeAt (escapes_at class source) source (escape_changes class source) place record { start = place; end = place + 1; replacement = replacement }
byte_at class element is source text place within hit ascii replacement escapes = record {
  begins = begins_byte class source place within hit ascii;
  next = λ from boundary first. byte_is_next class element is source text from place first boundary within (λ lead. omega (arith, lead, ascii)) replacement escapes;
}

pub reference_at : (class : Class) → IsHtml class → (source : List ℕ) → IsUtf8 source → (place : ℕ) → place < length source → in_class class (slice_index source place) ≡ true
    → (replacement : Replacement) → replacement_bytes replacement ≡ reference_to (slice_index source place)
    → IsChangeAt (escapes_at class source) source (escape_changes class source) place record { start = place; end = place + 1; replacement = replacement }
reference_at class html source text place within hit replacement is =
    let ascii : slice_index source place < 128 = in_class_is_ascii class (slice_index source place) html hit in
    record {
      begins = begins_byte class source place within hit ascii;
      next = λ from boundary first. record {
        after = first.ordered;
        ordered = omega arith;
        moves = omega (arith, first.ordered);
        within = omega arith;
        start_boundary = IsCharBoundary-before_ascii source place within ascii;
        end_boundary = IsCharBoundary-after_ascii source place text within ascii;
        changes = rw (html, is) (next-html_changes class source from place (html_first class html source from place first) within);
      };
    }

-- and a separator with its three bytes
pub separator_at : (class : Class) → element_of class ≡ Some Script → (source : List ℕ) → IsUtf8 source → (place : ℕ) → place < length source → in_class class (slice_index source place) ≡ true
    → slice_index source place ≡ separator_lead → completes_separator (drop (place + 1) source) ≡ true
    → (replacement : Replacement) → replacement_bytes replacement ≡ string_escape Script (if slice_index source (place + 2) == 0xA8 then line_separator else paragraph_separator)
    → IsChangeAt (escapes_at class source) source (escape_changes class source) place record { start = place; end = place + 3; replacement = replacement }
separator_at class is source text place within hit lead completes replacement escapes = record {
  begins = rw (drop_more source place 0 within, hit, completes) (or-true (not (slice_index source place == separator_lead)));
  next = λ from boundary first. separator_is_next class Script is source text from place first boundary within lead replacement escapes;
}

-- the first byte of one, where it is none
pub no_separator : (class : Class) (source : List ℕ) (place : ℕ) → place < length source → slice_index source place ≡ separator_lead → completes_separator (drop (place + 1) source) ≡ false
    → escapes_at class source place ≡ false
no_separator class source place within lead fails = rw (drop_more source place 0 within, lead, fails) (and-false (in_class class separator_lead))
