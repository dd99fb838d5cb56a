-- Markup, and what is open behind it.
use Rattle.std.proofs.Common.{ℕ, ◌≡◌, ◌⊎◌, ◌+◌, ◌==◌, drop, ◌||◌, if◌then◌else◌, Bool, true, false, List, [], ◌∷◌, ◌++◌, Ok, Err, Some, length, map, take, nat_lt, refl, sym, ap, ◌∙◌, subst, ⊎_elim, append-nil, append_assoc, arith, inl, inr}
use Rattle.std.proofs.lemmas.Bool.{cases_Bool, true≢false}
use Rattle.std.proofs.lemmas.Bool.Decides.{nat_tests}
use Rattle.html_template.specs.declared.faults.PartFault.TheVariants.{AfterLink, AfterStyleValue}
use Rattle.html_template.specs.declared.open_url.OpenUrl.{OpenUrl}
use Rattle.html_template.specs.declared.open_url.OpenUrl.TheVariants.{Outside, Within, Listed, Whole, Front, Declaration}
use Rattle.html_tokenizer.specs.UrlValues.{url_text}
use Rattle.html_template.specs.FilledUrls.{Fixed, url_texts}
use Rattle.html_template.specs.OpenUrls.{behind_value, ends_listed, part_markup, url_length, url_markup, within}
use Rattle.html_template.specs.PageUrls.{first_texts}
use Rattle.html_template.specs.Templates.{Chunk, Markup, page}
use Rattle.hesc_specs.specs.Text.Ascii.{semicolon}
use Rattle.html_tokenizer.specs.Declarations.{bang, is_style_byte}
use Rattle.html_tokenizer.specs.declared.elements.Content.{Content}
use Rattle.html_tokenizer.specs.declared.slot_place.SlotPlace.{SlotPlace}
use Rattle.html_tokenizer.specs.Standing.{is_refused}
use Rattle.html_tokenizer.specs.Tokenizer.States.{Attribute, In, Tokenizer, at_value}
use Rattle.html_tokenizer.specs.Tokenizer.Tokenization.{consume, state_after}
use Rattle.html_tokenizer.specs.UrlValues.{closes_url, ends_value, open_url, urls_from}
use Rattle.html_tokenizer.proofs.Passing.{state_after-append}
use Rattle.html_tokenizer.proofs.UrlValues.Appending.{urls_from-append}
use Rattle.html_tokenizer.proofs.UrlValues.Attributes.{is_open, open_url_is}
use Rattle.html_tokenizer.proofs.UrlValues.Ends.{ends_at}
use Rattle.html_tokenizer.proofs.UrlValues.Places.{is_value_place}
use Rattle.html_tokenizer.proofs.UrlValues.Reading.{reads_on, reads_to_end}
use Rattle.html_tokenizer.proofs.UrlValues.Slots.AtSlots.{value_fresh, value_tame}
use Rattle.html_tokenizer.proofs.UrlValues.Slots.Refusals.{not_refused}
use Rattle.html_tokenizer.proofs.UrlValues.Slots.Tame.{IsTame}
use Rattle.html_tokenizer.proofs.UrlValues.Staying.{StaysUrl, stays_none}
use Rattle.html_urls.specs.Bases.{goes_as, goes_on_so, open_behind}
use Rattle.html_urls.specs.OpenParts.{after_markup, is_unfixed, may_be_dots}
use Rattle.html_urls.specs.Shapes.{front_of}
use Rattle.html_urls.specs.Slots as part
use Rattle.html_urls.specs.Slots.{are_plain, ends_in_escape, is_plain, no_parts}
use Rattle.html_urls.specs.declared.base.BehindBase.{BehindBase}
use Rattle.html_urls.specs.declared.base.BehindBase.TheVariants.{Slash, Segment}
use Rattle.html_urls.specs.declared.open_part.OpenPart.{OpenPart}
use Rattle.html_urls.specs.declared.open_part.OpenPart.TheVariants.{NewSegment}
use Rattle.html_urls.proofs.Filled.Told.{placed_markup}
use Rattle.html_urls.proofs.Bases.GoesAs.{goes_alone, goes_more, slash_alone, slash_goes}
use Rattle.html_template.proofs.PageUrls.Filled.{EndsBehind, EndsParts, GoesBehind, GoesOn, IsFilled, ends_more, fixed_before}
use Rattle.html_template.proofs.PageUrls.EndedUrls.{ends_in, parts_end}
use Rattle.html_template.proofs.PageUrls.LaterMarkup.{as_told, base_told, behind_told, goes_on, is_ended, ok_url, uncut_told}
use Rattle.html_template.proofs.PageUrls.Opening.{Goes, behind_bytes, fresh_here, goes_in_part, goes_told, value_place}
use Rattle.html_template.proofs.PageUrls.Splitting.{IsCut, IsWhole, whole_or_cut}

-- ---- where no URL with a slot is open

outside_goes : (t : Tokenizer) (markup bytes : List ℕ) (chunks : List Chunk) → IsTame t → Goes Outside (state_after t bytes) bytes chunks →
    Goes Outside t markup (Markup bytes ∷ chunks)
outside_goes t markup bytes chunks tame goes = λ value from.
    let ended : List (List ℕ) = urls_from t value bytes in
    let open_value : List ℕ = open_url t value bytes in
    let later = goes open_value (record { start = t; tame = tame; before = value; fresh = fresh_here from; after = refl; is = refl }) in
    record {
      urls = map Fixed ended ++ later.urls;
      told = ap (λ urls. map Fixed ended ++ urls) later.told;
      filled = λ texts full utf8.
          subst (λ found. IsFilled found (first_texts chunks texts) (map Fixed ended ++ later.urls) (url_texts chunks texts))
          (sym (urls_from-append t value bytes (page chunks texts)))
          (fixed_before ended (urls_from (state_after t bytes) open_value (page chunks texts)) (first_texts chunks texts) later.urls (url_texts chunks texts)
          (later.filled texts full utf8));
    }

-- ---- behind a slot in a URL

-- markup that another part may follow may be the last one
plain_anywhere : (text : List ℕ) (is_last : Bool) → is_plain text false ≡ true → is_plain text is_last ≡ true
plain_anywhere text is_last plain = grind (arith, nat_tests)

-- behind a base neither a first segment nor an opaque path is open
behind_no_scheme : (behind : BehindBase) (text : List ℕ) → is_unfixed (open_behind behind) text ≡ false
behind_no_scheme behind text = grind (arith, nat_tests)

module _ (listed : Bool) (p : SlotPlace) (content : Content) (attribute : Attribute) (place : is_value_place p ≡ true) (url : is_open listed attribute ≡ true) where
  abbrev here : Tokenizer
  here = at_value (In p) content attribute

  -- ---- in a part of it

  goes_within : (open_part after : OpenPart) (raw text : List ℕ) (there : Tokenizer) (chunks : List Chunk) → is_plain text false ≡ true → is_unfixed open_part text ≡ false → after_markup open_part text ≡ Some after →
      StaysUrl here raw text there → GoesOn after there chunks → GoesOn open_part here (Markup raw ∷ chunks)
  goes_within open_part after raw text there chunks plain scheme opened stays behind = record {
    parts = part.Markup text ∷ behind.parts;
    slots = behind.slots;
    stand = placed_markup behind.slots text behind.parts ∙ ap (λ l. part.Markup text ∷ l) behind.stand;
    fixed = λ number. rw (plain_anywhere text (no_parts behind.parts) plain, scheme, opened) (behind.fixed (number + 1));
    later = behind.later;
    told = λ url_by before.
        rw (stays.none_ends [], stays.passes.after, stays.value []) (behind.told url_by (before ++ part.Markup text ∷ []))
        ∙ ap (λ all. url_by all ∷ behind.later) (append_assoc before (part.Markup text ∷ []) behind.parts);
    fits = behind.fits;
    ends = λ value texts full utf8.
        ends_more value text _ (behind_bytes here value raw (page chunks texts) (stays.none_ends value) stays.passes.after (stays.value value))
        (behind.ends (value ++ text) texts full utf8);
  }

  ends_within : (open_part after : OpenPart) (text : List ℕ) (chunks : List Chunk) → is_plain text true ≡ true → is_unfixed open_part text ≡ false → after_markup open_part text ≡ Some after →
      may_be_dots after ≡ false → EndsParts here text chunks → GoesOn open_part here chunks
  ends_within open_part after text chunks plain scheme opened none ends = record {
    parts = part.Markup text ∷ [];
    slots = [];
    stand = refl;
    fixed = λ number. rw (plain, scheme, opened, none) refl;
    later = ends.end.later;
    told = ends.told;
    fits = λ texts full. tt;
    ends = λ value texts full utf8. rw (append-nil text) (ends.end.ends value texts full utf8);
  }

  -- the value ends in the markup
  cut_ends : (bytes text : List ℕ) (chunks : List Chunk) → is_refused (state_after here bytes).state ≡ false → IsCut (closes_url listed p) bytes →
      url_text true (take (url_length listed p bytes) bytes) ≡ Some text → Goes Outside (state_after here bytes) bytes chunks → EndsParts here text (Markup bytes ∷ chunks)
  cut_ends bytes text chunks unrefused cut read goes =
      let raw : List ℕ = take (url_length listed p bytes) bytes in
      let all : is_refused (state_after here (raw ++ cut.first ∷ cut.rest)).state ≡ false =
      subst (λ (x : List ℕ). is_refused (state_after here x).state ≡ false) cut.parts unrefused in
      let still : is_refused (consume (state_after here raw) cut.first).next.state ≡ false =
      not_refused (consume (state_after here raw) cut.first).next cut.rest
      (subst (λ (x : Tokenizer). is_refused x.state ≡ false) (state_after-append here raw (cut.first ∷ cut.rest)) all) in
      let reads = reads_to_end listed p content attribute raw text cut.first place url cut.none cut.passes read still in
      let there : Goes Outside (state_after here (raw ++ cut.first ∷ cut.rest)) (raw ++ cut.first ∷ cut.rest) chunks =
      subst (λ (x : List ℕ). Goes Outside (state_after here x) x chunks) cut.parts goes in
      subst (λ (x : List ℕ). EndsParts here text (Markup x ∷ chunks)) (sym cut.parts)
      (subst (λ (x : List ℕ). EndsParts here x (Markup (raw ++ cut.first ∷ cut.rest) ∷ chunks)) (sym reads.whole)
      (parts_end here reads.there (value_tame p content attribute place) (value_fresh p content attribute []) reads.url raw reads.first reads.added cut.first cut.rest chunks reads.stays reads.ends there))

  module _ (open_part : OpenPart) (bytes : List ℕ) (opened : OpenUrl) (chunks : List Chunk)
      (unrefused : is_refused (state_after here bytes).state ≡ false) (told : part_markup listed p open_part bytes ≡ Ok opened)
      (goes : Goes opened (state_after here bytes) bytes chunks) where
    whole_goes : IsWhole (closes_url listed p) bytes → GoesOn open_part here (Markup bytes ∷ chunks)
    whole_goes whole =
        let end = whole.end in
        let all_of_it : nat_lt (url_length listed p bytes) (length bytes) ≡ false = grind (arith, nat_tests) in
        let behind = behind_told listed p open_part false bytes opened (rw (all_of_it, whole.all) at told) in
        let reads = reads_on listed p content attribute bytes behind.text place url whole.none behind.adds.read unrefused in
        let there : Tokenizer = at_value (In p) content reads.attribute in
        let later : Goes (within listed p behind.after) there bytes chunks =
        subst (λ (x : Tokenizer). Goes (within listed p behind.after) x bytes chunks) reads.stays.passes.after
        (goes_told (within listed p behind.after) (state_after here bytes) bytes chunks (goes_on listed p behind.after opened behind.told) goes) in
        goes_within open_part behind.after bytes behind.text there chunks behind.adds.plain behind.scheme behind.opened reads.stays (goes_in_part listed p behind.after there bytes chunks later (record { state_is = refl; attribute_is = reads.url_open }))

    cut_goes : IsCut (closes_url listed p) bytes → GoesOn open_part here (Markup bytes ∷ chunks)
    cut_goes cut =
        let within = cut.within in
        let ends : nat_lt (url_length listed p bytes) (length bytes) ≡ true = grind (arith, nat_tests) in
        let behind = behind_told listed p open_part true (take (url_length listed p bytes) bytes) opened (rw ends at told) in
        let end = is_ended listed p behind.after opened behind.told in
        ends_within open_part behind.after behind.text (Markup bytes ∷ chunks) behind.adds.plain behind.scheme behind.opened end.no_dots
        (cut_ends bytes behind.text chunks unrefused cut behind.adds.read (goes_told Outside (state_after here bytes) bytes chunks end.outside goes))

    within_goes : GoesOn open_part here (Markup bytes ∷ chunks)
    within_goes = ⊎_elim whole_goes cut_goes (whole_or_cut (closes_url listed p) bytes)

module _ (p : SlotPlace) (content : Content) (attribute : Attribute) (place : is_value_place p ≡ true) (url : is_open false attribute ≡ true) where
  abbrev at_url : Tokenizer
  at_url = at_value (In p) content attribute

  -- ---- behind a base

  -- the value goes on behind the text
  base_within : (behind : BehindBase) (after : OpenPart) (raw text : List ℕ) (there : Tokenizer) (chunks : List Chunk) → is_plain text false ≡ true →
      after_markup (open_behind behind) text ≡ Some after → StaysUrl at_url raw text there → (on : GoesOn after there chunks) →
      goes_on_so behind (text ++ front_of on.parts) ≡ true → GoesBehind behind at_url (Markup raw ∷ chunks)
  unfolding goes_within
  base_within behind after raw text there chunks plain opened stays on goes =
      record { on = goes_within false p content attribute place url (open_behind behind) after raw text there chunks plain (behind_no_scheme behind text) opened stays on; goes = goes }

  -- or ends in it
  base_ends : (behind : BehindBase) (after : OpenPart) (text : List ℕ) (chunks : List Chunk) → is_plain text true ≡ true →
      after_markup (open_behind behind) text ≡ Some after → may_be_dots after ≡ false → goes_as behind text ≡ true → EndsParts at_url text chunks →
      GoesBehind behind at_url chunks
  unfolding ends_within
  base_ends behind after text chunks plain opened none goes ends =
      record { on = ends_within false p content attribute place url (open_behind behind) after text chunks plain (behind_no_scheme behind text) opened none ends; goes = goes_alone behind text goes }

  -- a `/` that stands alone
  slash_within : (behind : BehindBase) (raw text : List ℕ) (there : Tokenizer) (chunks : List Chunk) → is_plain text false ≡ true → goes_as behind text ≡ true →
      text ≡ 47 ∷ [] → StaysUrl at_url raw text there → GoesBehind Segment there chunks → GoesBehind behind at_url (Markup raw ∷ chunks)
  slash_within behind raw text there chunks plain goes is stays next =
      let same : behind ≡ Slash = slash_alone behind (subst (λ x. goes_as behind x ≡ true) is goes) in
      subst (λ b. GoesBehind b at_url (Markup raw ∷ chunks)) (sym same)
      (base_within Slash NewSegment raw text there chunks plain (rw is refl) stays next.on (rw is (slash_goes (front_of next.on.parts) next.goes)))

  module _ (behind : BehindBase) (bytes : List ℕ) (opened : OpenUrl) (chunks : List Chunk)
      (unrefused : is_refused (state_after at_url bytes).state ≡ false) (told : url_markup (Front p behind) bytes ≡ Ok opened)
      (goes : Goes opened (state_after at_url bytes) bytes chunks) where
    base_whole : IsWhole (closes_url false p) bytes → GoesBehind behind at_url (Markup bytes ∷ chunks)
    base_whole whole =
        let end = whole.end in
        let all_of_it : nat_lt (url_length false p bytes) (length bytes) ≡ false = grind (arith, nat_tests) in
        let front = base_told p behind false bytes opened (rw (all_of_it, whole.all) at told) in
        let reads = reads_on false p content attribute bytes front.text place url whole.none front.adds.read unrefused in
        let there : Tokenizer = at_value (In p) content reads.attribute in
        elim (front.how) [
          | inl slash ↦ let later : Goes (Front p Segment) there bytes chunks =
              subst (λ (x : Tokenizer). Goes (Front p Segment) x bytes chunks) reads.stays.passes.after
              (goes_told (Front p Segment) (state_after at_url bytes) bytes chunks slash.told goes) in
              slash_within behind bytes front.text there chunks front.adds.plain front.goes slash.text_is reads.stays
              (later (record { state_is = refl; attribute_is = reads.url_open }))
          | inr on ↦ let later : Goes (Within p on.after) there bytes chunks =
              subst (λ (x : Tokenizer). Goes (Within p on.after) x bytes chunks) reads.stays.passes.after
              (goes_told (Within p on.after) (state_after at_url bytes) bytes chunks (goes_on false p on.after opened on.told) goes) in
              let next = later (record { state_is = refl; attribute_is = reads.url_open }) in
              base_within behind on.after bytes front.text there chunks front.adds.plain on.opened reads.stays next
              (goes_more behind front.text (front_of next.parts) front.goes (on.long refl))
        ]

    base_cut : IsCut (closes_url false p) bytes → GoesBehind behind at_url (Markup bytes ∷ chunks)
    base_cut cut =
        let within = cut.within in
        let ends : nat_lt (url_length false p bytes) (length bytes) ≡ true = grind (arith, nat_tests) in
        let front = base_told p behind true (take (url_length false p bytes) bytes) opened (rw ends at told) in
        elim (front.how) [
          | inl slash ↦ absurd (true≢false slash.open_still)
          | inr on ↦ let end = is_ended false p on.after opened on.told in
              base_ends behind on.after front.text (Markup bytes ∷ chunks) front.adds.plain on.opened end.no_dots front.goes
              (cut_ends false p content attribute place url bytes front.text chunks unrefused cut front.adds.read (goes_told Outside (state_after at_url bytes) bytes chunks end.outside goes))
        ]

    base_goes : GoesBehind behind at_url (Markup bytes ∷ chunks)
    base_goes = ⊎_elim base_whole base_cut (whole_or_cut (closes_url false p) bytes)

  -- ---- in a whole one

  link_goes : (bytes : List ℕ) (opened : OpenUrl) (chunks : List Chunk) → url_markup (Whole p) bytes ≡ Ok opened →
      Goes opened (state_after at_url bytes) bytes chunks → EndsBehind at_url [] (Markup bytes ∷ chunks)
  link_goes [] opened chunks told goes =
      let still : Goes (Whole p) at_url [] chunks = goes_told (Whole p) at_url [] chunks (ok_url told) goes in
      let end = still (record { state_is = refl; attribute_is = url }) in
      record { later = end.later; told = end.told; ends = end.ends }
  link_goes (b ∷ rest) opened chunks told goes =
      elim (cases_Bool (ends_value p b)) [
        | inl ends ↦ ends_in at_url at_url (value_tame p content attribute place) (value_fresh p content attribute []) (open_url_is false attribute url) [] [] [] b rest chunks stays_none (ends_at false p content attribute b place url ends)
            (goes_told Outside (state_after at_url (b ∷ rest)) (b ∷ rest) chunks (ok_url (rw ends at told)) goes)
        | inr goes_on ↦ let clash : Err AfterLink ≡ as_told opened = rw goes_on at told in
            absurd (cc)
      ]

-- ---- where anything is open

-- behind a slot in a declaration, which ends in the markup or goes on
value_open : (p : SlotPlace) (markup : List ℕ) (opened : OpenUrl) → behind_value p markup ≡ Ok opened → (Outside ≡ opened) ⊎ (Declaration p ≡ opened)
value_open p [] opened told = inr (ok_url told)
value_open p (b ∷ markup) opened told =
    ⊎_elim
    (λ (ends : (b == semicolon || ends_value p b) ≡ true). inl (ok_url (rw ends at told)))
    (λ (on : (b == semicolon || ends_value p b) ≡ false).
    let later : (if is_style_byte b || b == bang then behind_value p markup else Err AfterStyleValue) ≡ Ok opened = rw on at told in
    ⊎_elim
    (λ (plain : (is_style_byte b || b == bang) ≡ true). value_open p markup opened (rw plain at later))
    (λ (other : (is_style_byte b || b == bang) ≡ false). let clash : Err AfterStyleValue ≡ as_told opened = rw other at later in absurd (cc))
    (cases_Bool (is_style_byte b || b == bang)))
    (cases_Bool (b == semicolon || ends_value p b))

-- so the same is proved from there on
value_goes : (p : SlotPlace) (t : Tokenizer) (markup bytes : List ℕ) (opened : OpenUrl) (chunks : List Chunk) → behind_value p bytes ≡ Ok opened →
    Goes opened t markup chunks → Goes Outside t markup chunks
value_goes p t markup bytes opened chunks told goes =
    ⊎_elim
    (λ (is : Outside ≡ opened). goes_told Outside t markup chunks is goes)
    (λ (is : Declaration p ≡ opened). goes_told (Declaration p) t markup chunks is goes)
    (value_open p bytes opened told)

pub markup_goes : (before : OpenUrl) (t : Tokenizer) (markup bytes : List ℕ) (opened : OpenUrl) (chunks : List Chunk) → IsTame t →
    is_refused (state_after t bytes).state ≡ false → url_markup before bytes ≡ Ok opened → Goes opened (state_after t bytes) bytes chunks →
    Goes before t markup (Markup bytes ∷ chunks)
markup_goes Outside t markup bytes opened chunks tame unrefused told goes =
    outside_goes t markup bytes chunks tame (goes_told Outside (state_after t bytes) bytes chunks (ok_url told) goes)
markup_goes (Within p open_part) t markup bytes opened chunks tame unrefused told goes = λ stands.
    subst (λ s. GoesOn open_part (at_value s t.content t.attribute) (Markup bytes ∷ chunks)) (sym stands.state_is)
    (within_goes false p t.content t.attribute (value_place false p t tame stands) stands.attribute_is open_part bytes opened chunks
    (subst (λ s. is_refused (state_after (at_value s t.content t.attribute) bytes).state ≡ false) stands.state_is unrefused) told
    (subst (λ s. Goes opened (state_after (at_value s t.content t.attribute) bytes) bytes chunks) stands.state_is goes))
markup_goes (Listed p open_part) t markup bytes opened chunks tame unrefused told goes = λ stands.
    subst (λ s. GoesOn open_part (at_value s t.content t.attribute) (Markup bytes ∷ chunks)) (sym stands.state_is)
    (within_goes true p t.content t.attribute (value_place true p t tame stands) stands.attribute_is open_part bytes opened chunks
    (subst (λ s. is_refused (state_after (at_value s t.content t.attribute) bytes).state ≡ false) stands.state_is unrefused)
    (uncut_told p open_part bytes opened (ends_listed p (drop (url_length true p bytes) bytes)) told)
    (subst (λ s. Goes opened (state_after (at_value s t.content t.attribute) bytes) bytes chunks) stands.state_is goes))
markup_goes (Whole p) t markup bytes opened chunks tame unrefused told goes = λ stands.
    subst (λ s. EndsBehind (at_value s t.content t.attribute) [] (Markup bytes ∷ chunks)) (sym stands.state_is)
    (link_goes p t.content t.attribute (value_place false p t tame stands) stands.attribute_is bytes opened chunks told
    (subst (λ s. Goes opened (state_after (at_value s t.content t.attribute) bytes) bytes chunks) stands.state_is goes))
markup_goes (Front p behind) t markup bytes opened chunks tame unrefused told goes = λ stands.
    subst (λ s. GoesBehind behind (at_value s t.content t.attribute) (Markup bytes ∷ chunks)) (sym stands.state_is)
    (base_goes p t.content t.attribute (value_place false p t tame stands) stands.attribute_is behind bytes opened chunks
    (subst (λ s. is_refused (state_after (at_value s t.content t.attribute) bytes).state ≡ false) stands.state_is unrefused) told
    (subst (λ s. Goes opened (state_after (at_value s t.content t.attribute) bytes) bytes chunks) stands.state_is goes))
markup_goes (Declaration p) t markup bytes opened chunks tame unrefused told goes =
    outside_goes t markup bytes chunks tame (value_goes p (state_after t bytes) bytes bytes opened chunks told goes)
