-- A slot for a part of a URL, and one that is a whole URL.
use Rattle.std.proofs.Common.{ℕ, ◌≡◌, ◌+◌, Bool, map, true, false, List, [], ◌∷◌, ◌++◌, IsUtf8, IsOkAnd, Ok, Some, drop, take, refl, sym, ap, ◌∙◌, subst, append-nil, append_assoc, arith}
use Rattle.std.proofs.lemmas.Bool.Decides.{nat_tests}
use Rattle.std.specs.List.{AllByRecursion}
use Rattle.hesc_places.specs.Places.ReadBack.{read_back}
use Rattle.html_template.specs.declared.parts.SlotKind.{SlotKind}
use Rattle.html_template.specs.declared.parts.SlotKind.TheVariants as kind
use Rattle.html_template.specs.Encoders.{encoder_for}
use Rattle.html_template.specs.FilledUrls.{Based, FillBase, Parts, Whole, slots_in, url_texts}
use Rattle.html_template.specs.PageUrls.{first_texts}
use Rattle.html_template.specs.Slots.{MayBegin, base_kind, is_quoted, suits, whole_kind, written}
use Rattle.html_template.specs.Templates.{Chunk, Fill, Slot, page}
use Rattle.html_tokenizer.specs.declared.slot_place.SlotPlace.{SlotPlace}
use Rattle.html_tokenizer.specs.Standing.{standing}
use Rattle.html_tokenizer.specs.Tokenizer.Actions.{read_byte}
use Rattle.html_tokenizer.specs.Tokenizer.States.{In, Tokenizer, at_value}
use Rattle.html_tokenizer.specs.UrlValues.{urls_from}
use Rattle.html_tokenizer.proofs.Passing.{Passes}
use Rattle.html_tokenizer.proofs.UrlValues.Places.{is_value_place}
use Rattle.html_tokenizer.proofs.UrlValues.Attributes.{is_listed, open_so, open_url_is}
use Rattle.html_tokenizer.proofs.UrlValues.Apart.Bytes.{KeepsUrl}
use Rattle.html_tokenizer.proofs.UrlValues.Apart.Texts.{text_in_url}
use Rattle.html_tokenizer.proofs.UrlValues.Slots.Components.{component_added, is_written_byte}
use Rattle.html_tokenizer.proofs.UrlValues.Slots.Tame.{IsTame}
use Rattle.html_tokenizer.proofs.UrlValues.Staying.{StaysUrl}
use Rattle.html_urls.proofs.Components.{written_bytes}
use Rattle.html_urls.specs.Bases.{FillBehind}
use Rattle.html_urls.specs.Components.{component_at}
use Rattle.html_urls.specs.OpenParts.{after_text, open_of, slot_at}
use Rattle.html_urls.specs.Slots as part
use Rattle.html_urls.specs.Slots.{FillParts, FillSlots, Given, Told, is_plain, slots_of, url_of}
use Rattle.html_urls.specs.declared.base.BehindBase.{BehindBase}
use Rattle.html_urls.specs.declared.base.BehindBase.TheVariants.{Segment}
use Rattle.html_urls.specs.declared.open_part.OpenPart.{OpenPart}
use Rattle.html_urls.specs.declared.open_part.OpenPart.TheVariants.{NewSegment}
use Rattle.html_urls.specs.declared.parts.UrlSlot.{UrlSlot}
use Rattle.url.proofs.InputLemmas.{list_all_from_All}
use Rattle.html_template.proofs.PageUrls.Filled.{EndsBehind, EndsFirst, GoesBehind, GoesOn, HasLater, IsFilled, ends_more}
use Rattle.html_template.proofs.PageUrls.Opening.{behind_bytes, value_place}
use Rattle.html_template.proofs.TemplateLaw.{IsInQuotes, base_in_url, part_in_url, slot_passes, whole_in_url}

-- ---- a part of a URL

module _ (t : Tokenizer) (p : SlotPlace) (slot : UrlSlot) (chunks : List Chunk) (tame : IsTame t) (suited : suits (kind.UrlPart slot) p (standing t) ≡ true) where
  abbrev part_next : Tokenizer
  part_next = at_value (In p) t.content t.attribute

  component_in : (bytes : List ℕ) → StaysUrl t (component_at slot.place bytes) (component_at slot.place bytes) part_next
  component_in bytes =
      let stands = part_in_url slot p t.state t.content t.attribute suited in
      subst (λ s. StaysUrl (at_value s t.content t.attribute) (component_at slot.place bytes) (component_at slot.place bytes) part_next) (sym stands.state_is)
      (component_added (is_listed t.attribute) p t.content t.attribute (component_at slot.place bytes)
      (value_place (is_listed t.attribute) p t tame (record { state_is = stands.state_is; attribute_is = open_so t.attribute stands.attribute_is }))
      (open_so t.attribute stands.attribute_is)
      (list_all_from_All is_written_byte (component_at slot.place bytes) (written_bytes slot.place bytes)))

  -- the text, and then what the URL goes on with
  text_ends : (after : OpenPart) (behind : GoesOn after part_next chunks) (value text : List ℕ) (texts : List (List ℕ)) → Fill chunks texts → AllByRecursion IsUtf8 texts →
      EndsFirst (urls_from t value (component_at slot.place text ++ page chunks texts)) (first_texts chunks texts)
      (value ++ (component_at slot.place text ++ url_of behind.parts (take (slots_in behind.parts) (url_texts chunks texts))))
      behind.later (drop (slots_in behind.parts) (url_texts chunks texts))
  text_ends after behind value text texts full utf8 =
      let stays = component_in text in
      ends_more value (component_at slot.place text) _
      (behind_bytes t value (component_at slot.place text) (page chunks texts) (stays.none_ends value) stays.passes.after (stays.value value))
      (behind.ends (value ++ component_at slot.place text) texts full utf8)

  -- behind another slot of it
  module _ (open_part : OpenPart) (placed : slot_at open_part ≡ Some slot) (behind : GoesOn (after_text open_part) part_next chunks) where
    slots_fit : (texts : List (List ℕ)) → Fill (Slot p (kind.UrlPart slot) ∷ chunks) texts →
        FillSlots (slot ∷ behind.slots) (take (slots_in (part.Slot slot.place ∷ behind.parts)) (url_texts (Slot p (kind.UrlPart slot) ∷ chunks) texts))
    slots_fit texts full = grind (arith, nat_tests)

    slots_end : (value : List ℕ) (texts : List (List ℕ)) → Fill (Slot p (kind.UrlPart slot) ∷ chunks) texts → AllByRecursion IsUtf8 texts →
        EndsFirst (urls_from t value (page (Slot p (kind.UrlPart slot) ∷ chunks) texts)) (first_texts (Slot p (kind.UrlPart slot) ∷ chunks) texts)
        (value ++ url_of (part.Slot slot.place ∷ behind.parts) (take (slots_in (part.Slot slot.place ∷ behind.parts)) (url_texts (Slot p (kind.UrlPart slot) ∷ chunks) texts)))
        behind.later (drop (slots_in (part.Slot slot.place ∷ behind.parts)) (url_texts (Slot p (kind.UrlPart slot) ∷ chunks) texts))
    slots_end value [] full utf8 = absurd full
    slots_end value (text ∷ texts) full utf8 = text_ends (after_text open_part) behind value text texts full.1 utf8.1

    pub later_goes : GoesOn open_part t (Slot p (kind.UrlPart slot) ∷ chunks)
    later_goes = record {
      parts = part.Slot slot.place ∷ behind.parts;
      slots = slot ∷ behind.slots;
      stand = ap (λ l. part.Slot slot.place ∷ l) behind.stand;
      fixed = λ number. rw (placed, behind.fixed (number + 1)) refl;
      later = behind.later;
      told = λ url_by before.
          rw suited (behind.told url_by (before ++ part.Slot slot.place ∷ [])) ∙ ap (λ all. url_by all ∷ behind.later) (append_assoc before (part.Slot slot.place ∷ []) behind.parts);
      fits = slots_fit;
      ends = slots_end;
    }

    -- behind the first markup of it
    module _ (front : List ℕ) (plain : is_plain front false ≡ true) (opened : open_of front ≡ Some open_part) where
      abbrev parts : List Given
      parts = part.Markup front ∷ part.Slot slot.place ∷ behind.parts

      parts_told : slots_of parts ≡ Ok (slot ∷ behind.slots)
      parts_told = rw (plain, opened, placed, behind.fixed 2) refl

      parts_filled : (texts : List (List ℕ)) → Fill (Slot p (kind.UrlPart slot) ∷ chunks) texts → AllByRecursion IsUtf8 texts →
          IsFilled (urls_from t front (page (Slot p (kind.UrlPart slot) ∷ chunks) texts)) (first_texts (Slot p (kind.UrlPart slot) ∷ chunks) texts)
          (Parts parts ∷ behind.later) (url_texts (Slot p (kind.UrlPart slot) ∷ chunks) texts)
      parts_filled texts full utf8 =
          let found : List (List ℕ) = url_texts (Slot p (kind.UrlPart slot) ∷ chunks) texts in
          let end = slots_end front texts full utf8 in
          record {
            same = end.same ∙ ap (λ others. url_of parts (take (slots_in parts) found) ∷ others) end.filled.same;
            full = (
              subst (λ (told : Told). IsOkAnd told (FillParts parts (take (slots_in parts) found))) (sym parts_told)
                  (slots_fit texts full, ap (λ l. part.Markup front ∷ part.Slot slot.place ∷ l) behind.stand),
              end.filled.full,
            );
            whole_same = end.filled.whole_same;
          }

      pub first_goes : (value : List ℕ) → value ≡ front → HasLater t value (Slot p (kind.UrlPart slot) ∷ chunks)
      first_goes value is =
          subst (λ (x : List ℕ). HasLater t x (Slot p (kind.UrlPart slot) ∷ chunks)) (sym is)
          (record { urls = Parts parts ∷ behind.later; told = rw suited (behind.told Parts (part.Markup front ∷ part.Slot slot.place ∷ [])); filled = parts_filled })

  -- behind a base that ends in `/`
  pub slot_behind : slot_at NewSegment ≡ Some slot → GoesOn (after_text NewSegment) part_next chunks → GoesBehind Segment t (Slot p (kind.UrlPart slot) ∷ chunks)
  unfolding later_goes
  slot_behind placed behind = record { on = later_goes NewSegment placed behind; goes = refl }

-- ---- a whole URL, and a base

itself_back : (p : SlotPlace) → is_quoted p ≡ true → (bytes : List ℕ) → read_back (encoder_for p) bytes ≡ bytes
itself_back p quoted bytes = grind (arith, nat_tests)

pub quoted_place : (p : SlotPlace) (t : Tokenizer) → IsTame t → IsInQuotes p t.state t.attribute → is_value_place p ≡ true
quoted_place p t tame stands = value_place false p t tame (record { state_is = stands.state_is; attribute_is = stands.attribute_is })

module _ (t : Tokenizer) (p : SlotPlace) (chunks : List Chunk) (tame : IsTame t) where
  abbrev whole_next : Tokenizer
  whole_next = at_value (In p) t.content t.attribute

  -- what is written for the text is read as the text, and then what is behind it
  text_keeps : (text bytes : List ℕ) → IsInQuotes p t.state t.attribute →
      Passes t bytes (map (read_byte p) (read_back (encoder_for p) text)) whole_next → KeepsUrl t bytes text
  text_keeps text bytes stands passes =
      text_in_url p t whole_next bytes text (quoted_place p t tame stands) tame stands.attribute_is (open_url_is false t.attribute stands.attribute_is)
      (subst (λ (x : List ℕ). Passes t bytes (map (read_byte p) x) whole_next) (itself_back p stands.quoted text) passes)

  text_filled : (kind : SlotKind) (text bytes : List ℕ) (texts : List (List ℕ)) (end : EndsBehind whole_next [] chunks) → IsInQuotes p t.state t.attribute →
      Passes t bytes (map (read_byte p) (read_back (encoder_for p) text)) whole_next → MayBegin kind text → Fill chunks texts → AllByRecursion IsUtf8 texts →
      IsFilled (urls_from t [] (bytes ++ page chunks texts)) ((kind, text) ∷ first_texts chunks texts) (Whole kind ∷ end.later) (text ∷ url_texts chunks texts)
  text_filled kind text bytes texts end stands passes is full utf8 =
      let keeps = text_keeps text bytes stands passes in
      let ends = end.ends text texts full utf8 in
      record {
        same = behind_bytes t [] bytes (page chunks texts) (keeps.none_ends []) passes.after (keeps.value [])
            ∙ ends.same
            ∙ ap (λ url. url ∷ ends.others) (append-nil text)
            ∙ ap (λ others. text ∷ others) ends.filled.same;
        full = (is, ends.filled.full);
        whole_same = ap (λ more. (kind, text) ∷ more) ends.filled.whole_same;
      }

  whole_filled : (is_followed : Bool) → suits (whole_kind is_followed) p (standing t) ≡ true → (end : EndsBehind whole_next [] chunks) (texts : List (List ℕ)) →
      Fill (Slot p (whole_kind is_followed) ∷ chunks) texts → AllByRecursion IsUtf8 texts →
      IsFilled (urls_from t [] (page (Slot p (whole_kind is_followed) ∷ chunks) texts)) (first_texts (Slot p (whole_kind is_followed) ∷ chunks) texts)
      (Whole (whole_kind is_followed) ∷ end.later) (url_texts (Slot p (whole_kind is_followed) ∷ chunks) texts)
  whole_filled is_followed suited end [] full utf8 = absurd full
  whole_filled true suited end (text ∷ texts) full utf8 =
      text_filled kind.Link text (written p kind.Link text) texts end (whole_in_url true p t.state t.content t.attribute suited)
      (slot_passes p kind.Link t.state t.content t.attribute text suited full.0 utf8.0) full.0 full.1 utf8.1
  whole_filled false suited end (text ∷ texts) full utf8 =
      text_filled kind.OwnPath text (written p kind.OwnPath text) texts end (whole_in_url false p t.state t.content t.attribute suited)
      (slot_passes p kind.OwnPath t.state t.content t.attribute text suited full.0 utf8.0) full.0 full.1 utf8.1

  -- the same of a base, and of what the URL goes on with
  fill_behind : (behind : BehindBase) (on : GoesBehind behind whole_next chunks) (texts : List (List ℕ)) → Fill chunks texts →
      FillBehind behind on.on.parts (take (slots_in on.on.parts) (url_texts chunks texts))
  fill_behind behind on texts full = rw (on.goes, on.on.fixed 0) (on.on.fits texts full, on.on.stand)

  base_text_filled : (kind : SlotKind) (behind : BehindBase) (text bytes : List ℕ) (texts : List (List ℕ)) (on : GoesBehind behind whole_next chunks) →
      IsInQuotes p t.state t.attribute → Passes t bytes (map (read_byte p) (read_back (encoder_for p) text)) whole_next → MayBegin kind text →
      FillBase kind on.on.parts (take (slots_in on.on.parts) (url_texts chunks texts)) → Fill chunks texts → AllByRecursion IsUtf8 texts →
      IsFilled (urls_from t [] (bytes ++ page chunks texts)) ((kind, text) ∷ first_texts chunks texts) (Based kind on.on.parts ∷ on.on.later) (text ∷ url_texts chunks texts)
  base_text_filled kind behind text bytes texts on stands passes is fills full utf8 =
      let keeps = text_keeps text bytes stands passes in
      let ends = on.on.ends text texts full utf8 in
      let url : List ℕ = text ++ url_of on.on.parts (take (slots_in on.on.parts) (url_texts chunks texts)) in
      record {
        same = behind_bytes t [] bytes (page chunks texts) (keeps.none_ends []) passes.after (keeps.value [])
            ∙ ends.same
            ∙ ap (λ others. url ∷ others) ends.filled.same;
        full = (is, fills, ends.filled.full);
        whole_same = ap (λ more. (kind, text) ∷ more) ends.filled.whole_same;
      }

  base_filled : (is_followed : Bool) (behind : BehindBase) → suits (base_kind behind (whole_kind is_followed)) p (standing t) ≡ true → (on : GoesBehind behind whole_next chunks)
      (texts : List (List ℕ)) → Fill (Slot p (base_kind behind (whole_kind is_followed)) ∷ chunks) texts → AllByRecursion IsUtf8 texts →
      IsFilled (urls_from t [] (page (Slot p (base_kind behind (whole_kind is_followed)) ∷ chunks) texts))
      (first_texts (Slot p (base_kind behind (whole_kind is_followed)) ∷ chunks) texts)
      (Based (base_kind behind (whole_kind is_followed)) on.on.parts ∷ on.on.later) (url_texts (Slot p (base_kind behind (whole_kind is_followed)) ∷ chunks) texts)
  base_filled is_followed behind suited on [] full utf8 = absurd full
  base_filled true behind suited on (text ∷ texts) full utf8 =
      base_text_filled (kind.Base behind) behind text (written p (kind.Base behind) text) texts on (base_in_url true behind p t.state t.content t.attribute suited)
      (slot_passes p (kind.Base behind) t.state t.content t.attribute text suited full.0 utf8.0) full.0 (fill_behind behind on texts full.1) full.1 utf8.1
  base_filled false behind suited on (text ∷ texts) full utf8 =
      base_text_filled (kind.OwnBase behind) behind text (written p (kind.OwnBase behind) text) texts on (base_in_url false behind p t.state t.content t.attribute suited)
      (slot_passes p (kind.OwnBase behind) t.state t.content t.attribute text suited full.0 utf8.0) full.0 (fill_behind behind on texts full.1) full.1 utf8.1

pub whole_goes : (is_followed : Bool) (t : Tokenizer) (p : SlotPlace) (chunks : List Chunk) → IsTame t → suits (whole_kind is_followed) p (standing t) ≡ true →
    (value : List ℕ) → value ≡ [] → EndsBehind (at_value (In p) t.content t.attribute) [] chunks → HasLater t value (Slot p (whole_kind is_followed) ∷ chunks)
whole_goes is_followed t p chunks tame suited value none end =
    subst (λ (x : List ℕ). HasLater t x (Slot p (whole_kind is_followed) ∷ chunks)) (sym none) (found is_followed suited)
  where
    found : (is_followed : Bool) → suits (whole_kind is_followed) p (standing t) ≡ true → HasLater t [] (Slot p (whole_kind is_followed) ∷ chunks)
    found true suited = record { urls = Whole kind.Link ∷ end.later; told = rw suited (end.told kind.Link); filled = whole_filled t p chunks tame true suited end }
    found false suited = record { urls = Whole kind.OwnPath ∷ end.later; told = rw suited (end.told kind.OwnPath); filled = whole_filled t p chunks tame false suited end }

pub base_goes : (is_followed : Bool) (behind : BehindBase) (t : Tokenizer) (p : SlotPlace) (chunks : List Chunk) → IsTame t →
    suits (base_kind behind (whole_kind is_followed)) p (standing t) ≡ true → (value : List ℕ) → value ≡ [] →
    GoesBehind behind (at_value (In p) t.content t.attribute) chunks → HasLater t value (Slot p (base_kind behind (whole_kind is_followed)) ∷ chunks)
base_goes is_followed behind t p chunks tame suited value none on =
    subst (λ (x : List ℕ). HasLater t x (Slot p (base_kind behind (whole_kind is_followed)) ∷ chunks)) (sym none) (found is_followed suited)
  where
    found : (is_followed : Bool) → suits (base_kind behind (whole_kind is_followed)) p (standing t) ≡ true →
        HasLater t [] (Slot p (base_kind behind (whole_kind is_followed)) ∷ chunks)
    found true suited = record {
      urls = Based (kind.Base behind) on.on.parts ∷ on.on.later;
      told = rw suited (on.on.told (Based (kind.Base behind)) []);
      filled = base_filled t p chunks tame true behind suited on;
    }
    found false suited = record {
      urls = Based (kind.OwnBase behind) on.on.parts ∷ on.on.later;
      told = rw suited (on.on.told (Based (kind.OwnBase behind)) []);
      filled = base_filled t p chunks tame false behind suited on;
    }
