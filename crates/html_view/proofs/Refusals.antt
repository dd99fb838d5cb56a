-- Where a way is refused, the parts of its unrolling are no template.
use Rattle.std.proofs.Common.{ℕ, ◌≡◌, ◌⊎◌, ◌==◌, ◌+◌, Bool, true, false, if◌then◌else◌, List, [], ◌∷◌, ◌++◌, length, Option, Some, None, Result, Ok, Err, refl, sym, ap, ◌∙◌, subst, inl, inr, ⊎_elim, append_assoc, arith}
use Rattle.std.specs.List.{list_any}
use Rattle.std.proofs.lemmas.Bool.{cases_Bool, cond-false, cond-true, ne_eqb, or_right, true≢false}
use Rattle.html_template.specs.OpenUrls.{before, begun, first_slot, plain_text, url_markup}
use Rattle.html_template.specs.Slots.{base_kind, past_slot as past_place, suits}
use Rattle.html_template.specs.TemplateFaults.{Walk, at_beginning, behind_markup, behind_slot, faulty_part, pieces_from, put, put_all, slot_at, template_of, told_behind, Told}
use Rattle.html_template.specs.Templates.{Chunk, Given, GivenMarkup, GivenSlot, Markup, Slot, after_slot}
use Rattle.html_template.specs.declared.faults.PartFault.{PartFault}
use Rattle.html_template.specs.declared.faults.PartFault.TheVariants as fault
use Rattle.html_template.specs.declared.faults.TemplateFault.{TemplateFault}
use Rattle.html_template.specs.declared.faults.TemplateFault.TheVariants as template
use Rattle.html_template.specs.declared.open_url.OpenUrl.{OpenUrl}
use Rattle.html_template.specs.declared.open_url.OpenUrl.TheVariants.{Outside, Within, Listed, Whole, Front, Declaration}
use Rattle.html_template.specs.declared.open_url.PlacedSlot.{PlacedSlot}
use Rattle.html_template.specs.declared.parts.SlotKind.{SlotKind}
use Rattle.html_template.proofs.Walks.{base_stands, past_base}
use Rattle.html_tokenizer.specs.Standing.{is_refused, may_end, standing}
use Rattle.html_tokenizer.specs.Tokenizer.States.{In, Tokenizer, refused}
use Rattle.html_tokenizer.specs.Tokenizer.Tokenization.{state_after}
use Rattle.html_tokenizer.specs.UrlValues.{after_last, begins_url, begins_value, is_of_urls}
use Rattle.html_tokenizer.specs.declared.reader.Standing.{Standing}
use Rattle.html_tokenizer.specs.declared.reader.Standing.TheVariants.{Stands, InUrl, InLink, InListedUrl, InDeclaration, InScript, InJson, Nowhere, Barred}
use Rattle.html_tokenizer.specs.declared.slot_place.SlotPlace.{SlotPlace}
use Rattle.html_tokenizer.proofs.Passing.{state_after-append}
use Rattle.html_tokenizer.proofs.UrlValues.Following.{same_place}
use Rattle.html_tokenizer.proofs.UrlValues.Attributes.{of_open}
use Rattle.html_tokenizer.proofs.UrlValues.Bytes.{is_at}
use Rattle.html_tokenizer.proofs.UrlValues.Slots.AtSlots.{in_listed_url, in_url, no_url_tame, stands_in_list, stands_in_url}
use Rattle.html_tokenizer.proofs.UrlValues.Slots.Tame.{inside_at}
use Rattle.html_tokenizer.proofs.UrlValues.Slots.Marks.{walks_back}
use Rattle.html_urls.specs.Bases.{behind_base}
use Rattle.html_urls.specs.declared.base.BehindBase.{BehindBase}
use Rattle.html_view.specs.Reached.{AreRefused}
use Rattle.html_view.specs.Ways.{Way, behind, first_way, let_go, on_ok, past_slot, settled, slot_in, turned, url_as, way_behind, way_slot}
use Rattle.html_view.proofs.Sound.{AtSlot, Holds, LetGo, Reads, opened_outside, reads_behind, reads_markup, reads_slot}
use Rattle.html_view.proofs.Steps.{any_more, base_open, ended_more, still_open}

-- ---- parts that were read

-- the same walk, where this follows its last slot
abbrev turned_walk : Walk → Option BehindBase → Walk
turned_walk walk following = record { tokenizer = walk.tokenizer; markup = walk.markup; url = url_as walk.url following }

-- the way is where these parts lead, and the markup behind them. What the last slot is, and what is open behind it, is told by the first byte of that
-- markup
pub record ReadsParts (way : Way) (parts : List Given) (markup : List ℕ) : Type 0 where
  pub number : ℕ
  pub chunks : Option BehindBase → List Chunk
  pub walk : Walk
  pub told : (next : List ℕ) (more : List Given) →
      template_of (parts ++ GivenMarkup next ∷ more)
      ≡ told_behind (chunks (behind_base next)) number (turned_walk walk (behind_base next)) (GivenMarkup next ∷ more)
  pub reads : Reads way walk.tokenizer (url_as walk.url (behind_base markup)) markup

pub reads_first : ReadsParts first_way [] []
reads_first = record {
  number = 0;
  chunks = λ following. [];
  walk = at_beginning;
  told = λ next more. refl;
  reads = record { state = refl; kept = inl (record { same = refl; url_same = refl }) };
}

-- ---- what follows a slot

url_none : (url : OpenUrl) → url_as url None ≡ url
url_none Outside = refl
url_none (Within p part) = refl
url_none (Listed p part) = refl
url_none (Whole p) = refl
url_none (Front p behind) = refl
url_none (Declaration p) = refl

begun_none : (found : PlacedSlot) (url : OpenUrl) → begun found url None ≡ found
begun_none found Outside = refl
begun_none found (Within p part) = refl
begun_none found (Listed p part) = refl
begun_none found (Whole p) = refl
begun_none found (Front p behind) = refl
begun_none found (Declaration p) = refl

pub before_nothing : (found : PlacedSlot) → before [] found ≡ found
before_nothing found = begun_none found found.url

-- a way that has read markup since the last slot, or is in no URL with slots, stays as it is
turned_same : (way : Way) (bytes : List ℕ) → ((length way.markup == 0) ≡ false) ⊎ (way.url ≡ Outside) → turned way bytes ≡ way
turned_same way bytes (inl some) = cond-false _ _ _ some
turned_same way bytes (inr outside) =
    ⊎_elim
    (λ (none : (length way.markup == 0) ≡ true).
    cond-true _ _ _ none
    ∙ ap (λ u. record { tokenizer = way.tokenizer; markup = way.markup; url = u }) (ap (λ u. url_as u (behind_base bytes)) outside ∙ sym outside))
    (λ (some : (length way.markup == 0) ≡ false). cond-false _ _ _ some)
    (cases_Bool (length way.markup == 0))

-- no URL ends before any markup
none_ends : (url : OpenUrl) → url_markup url [] ≡ Ok Outside → url ≡ Outside
none_ends Outside told = refl
none_ends (Within p part) told = absurd (still_open false p part (plain_text false []) told)
none_ends (Listed p part) told = absurd (still_open true p part (plain_text false []) told)
none_ends (Whole p) told = absurd (cc)
none_ends (Front p behind) told = absurd (base_open p behind (plain_text false []) told)
none_ends (Declaration p) told = absurd (cc)

no_front : (front markup : List ℕ) → [] ≡ front ++ markup → front ≡ []
no_front [] markup whole = refl
no_front (b ∷ front) markup whole = absurd (cc)

turned_first : (way : Way) (t : Tokenizer) (url : OpenUrl) (bytes : List ℕ) → Reads way t (url_as url None) [] →
    Reads (turned way bytes) t (url_as url (behind_base bytes)) []
turned_first way t url bytes reads =
    ⊎_elim
    (λ (holds : Holds way (url_as url None) []).
    subst (λ w. Reads w t (url_as url (behind_base bytes)) []) (sym (cond-true _ _ _ (ap (λ (l : List ℕ). length l == 0) holds.same)))
    (record {
      state = reads.state;
      kept = inl (record { same = holds.same; url_same = ap (λ u. url_as u (behind_base bytes)) (holds.url_same ∙ url_none url) });
    }))
    (λ (gone : LetGo way t (url_as url None) []).
    let ended : url_markup (url_as url None) [] ≡ Ok Outside = sym (ap (url_markup (url_as url None)) (no_front gone.front way.markup gone.whole)) ∙ gone.ended in
    let outside : url ≡ Outside = sym (url_none url) ∙ none_ends (url_as url None) ended in
    let same : url_as url None ≡ url_as url (behind_base bytes) = ap (λ u. url_as u None) outside ∙ sym (ap (λ u. url_as u (behind_base bytes)) outside) in
    subst (λ w. Reads w t (url_as url (behind_base bytes)) []) (sym (turned_same way bytes (inr gone.outside)))
    (subst (λ u. Reads way t u []) same reads))
    reads.kept

turned_reads : (way : Way) (t : Tokenizer) (url : OpenUrl) (markup bytes : List ℕ) → Reads way t (url_as url (behind_base markup)) markup →
    Reads (turned way bytes) t (url_as url (behind_base (markup ++ bytes))) markup
turned_reads way t url [] bytes reads = turned_first way t url bytes reads
turned_reads way t url (b ∷ markup) bytes reads =
    subst (λ w. Reads w t (url_as url (behind_base (b ∷ markup))) (b ∷ markup))
    (sym (turned_same way bytes
    (⊎_elim
    (λ (holds : Holds way (url_as url (behind_base (b ∷ markup))) (b ∷ markup)).
    inl (ap (λ (l : List ℕ). length l == 0) holds.same ∙ ne_eqb (length (b ∷ markup)) 0 (λ same. omega (arith, same))))
    (λ (gone : LetGo way t (url_as url (behind_base (b ∷ markup))) (b ∷ markup)). inr gone.outside)
    reads.kept)))
    reads

-- ---- one node more

pub reads_more : (way next : Way) (parts : List Given) (markup bytes : List ℕ) → ReadsParts way parts markup → way_behind (turned way bytes) bytes ≡ Ok next →
    ReadsParts next parts (markup ++ bytes)
reads_more way next parts markup bytes reads goes = record {
  number = reads.number;
  chunks = reads.chunks;
  walk = reads.walk;
  told = reads.told;
  reads = reads_markup (turned way bytes) next reads.walk.tokenizer (url_as reads.walk.url (behind_base (markup ++ bytes))) markup bytes
      (turned_reads way reads.walk.tokenizer reads.walk.url markup bytes reads.reads) goes;
}

put_more : (chunks : List Chunk) (first second : Chunk) (told : Told) → put_all (chunks ++ first ∷ second ∷ []) told ≡ put_all chunks (put first (put second told))
put_more [] first second told = refl
put_more (chunk ∷ chunks) first second told = ap (put chunk) (put_more chunks first second told)

slot_told : (walk : Walk) (number : ℕ) (markup next : List ℕ) (found : PlacedSlot) (more : List Given) (at : AtSlot walk.tokenizer walk.url markup found) →
    pieces_from number walk (GivenMarkup markup ∷ GivenSlot ∷ GivenMarkup next ∷ more)
    ≡ put (Markup markup)
    (put (Slot (before next found).place (before next found).kind)
    (pieces_from (number + 1 + 1) (behind_slot (behind_markup walk markup at.opened) (before next found)) (GivenMarkup next ∷ more)))
slot_told walk number markup next found more at = rw (at.read, at.told, at.stands) refl

-- the tokenizer is in the same state behind a base
after_as : (behind : BehindBase) (p : SlotPlace) (kind : SlotKind) (t : Tokenizer) → after_slot p (base_kind behind kind) t ≡ after_slot p kind t
after_as behind p kind t =
    ap (λ suited. if suited then past_place p (base_kind behind kind) t else refused) (base_stands behind kind p (standing t))
    ∙ ap (λ u. if suits kind p (standing t) then u else refused) (sym (past_base behind kind p t))

begun_turned : (walk : Walk) (found : PlacedSlot) (url : OpenUrl) (following : Option BehindBase) → found.url ≡ url →
    behind_slot walk (begun found url following) ≡ turned_walk (behind_slot walk found) following
begun_turned walk found (Whole p) (Some behind) is =
    ap (λ t. record { tokenizer = t; markup = []; url = Front p behind }) (after_as behind found.place found.kind walk.tokenizer)
    ∙ ap (λ u. record { tokenizer = after_slot found.place found.kind walk.tokenizer; markup = []; url = u }) (sym (ap (λ u. url_as u (Some behind)) is))
begun_turned walk found (Whole p) None is =
    ap (λ u. record { tokenizer = after_slot found.place found.kind walk.tokenizer; markup = []; url = u }) (sym (url_none found.url))
begun_turned walk found Outside following is =
    ap (λ u. record { tokenizer = after_slot found.place found.kind walk.tokenizer; markup = []; url = u }) (is ∙ sym (ap (λ u. url_as u following) is))
begun_turned walk found (Within p part) following is =
    ap (λ u. record { tokenizer = after_slot found.place found.kind walk.tokenizer; markup = []; url = u }) (is ∙ sym (ap (λ u. url_as u following) is))
begun_turned walk found (Listed p part) following is =
    ap (λ u. record { tokenizer = after_slot found.place found.kind walk.tokenizer; markup = []; url = u }) (is ∙ sym (ap (λ u. url_as u following) is))
begun_turned walk found (Front p behind) following is =
    ap (λ u. record { tokenizer = after_slot found.place found.kind walk.tokenizer; markup = []; url = u }) (is ∙ sym (ap (λ u. url_as u following) is))
begun_turned walk found (Declaration p) following is =
    ap (λ u. record { tokenizer = after_slot found.place found.kind walk.tokenizer; markup = []; url = u }) (is ∙ sym (ap (λ u. url_as u following) is))

pub reads_past : (way : Way) (found : PlacedSlot) (parts : List Given) (markup : List ℕ) → ReadsParts way parts markup → way_slot way ≡ Ok found →
    ReadsParts (past_slot way found) (parts ++ GivenMarkup markup ∷ GivenSlot ∷ []) []
reads_past way found parts markup reads stands =
    let walk : Walk = turned_walk reads.walk (behind_base markup) in
    let chunks : List Chunk = reads.chunks (behind_base markup) in
    let at = reads_slot way walk.tokenizer walk.url markup found reads.reads stands in
    let last : Walk = behind_markup walk markup at.opened in
    record {
      number = reads.number + 1 + 1;
      chunks = λ following. chunks ++ Markup markup ∷ Slot (begun found found.url following).place (begun found found.url following).kind ∷ [];
      walk = behind_slot last found;
      told = λ next more.
          ap template_of (append_assoc parts (GivenMarkup markup ∷ GivenSlot ∷ []) (GivenMarkup next ∷ more))
          ∙ reads.told markup (GivenSlot ∷ GivenMarkup next ∷ more)
          ∙ ap (put_all chunks)
          (slot_told walk reads.number markup next found more at
          ∙ ap (λ w. put (Markup markup) (put (Slot (before next found).place (before next found).kind) (pieces_from (reads.number + 1 + 1) w (GivenMarkup next ∷ more))))
          (begun_turned last found found.url (behind_base next) refl))
          ∙ sym (put_more chunks (Markup markup) (Slot (before next found).place (before next found).kind) _);
      reads = record {
        state = ap (after_slot found.place found.kind) reads.reads.state;
        kept = inl (record { same = refl; url_same = sym (url_none found.url) });
      };
    }

-- ---- parts that are refused

put_refused : (chunks : List Chunk) (why : TemplateFault) → put_all chunks (Err why) ≡ Err why
put_refused [] why = refl
put_refused (chunk ∷ chunks) why = ap (put chunk) (put_refused chunks why)

refused_told : (way : Way) (parts more : List Given) (markup next : List ℕ) (why : TemplateFault) (reads : ReadsParts way parts markup) →
    pieces_from reads.number (turned_walk reads.walk (behind_base next)) (GivenMarkup next ∷ more) ≡ Err why → template_of (parts ++ GivenMarkup next ∷ more) ≡ Err why
refused_told way parts more markup next why reads told =
    reads.told next more ∙ ap (put_all (reads.chunks (behind_base next))) told ∙ put_refused (reads.chunks (behind_base next)) why

-- what is refused of markup and a slot behind it
record PartRefused (number : ℕ) (walk : Walk) (more : List Given) (why : PartFault) : Type 0 where
  part : ℕ
  told : pieces_from number walk more ≡ Err (template.Part part why)

are_refused : (way : Way) (parts more : List Given) (markup next : List ℕ) (why : PartFault) (reads : ReadsParts way parts markup) →
    PartRefused reads.number (turned_walk reads.walk (behind_base next)) (GivenMarkup next ∷ more) why → AreRefused (parts ++ GivenMarkup next ∷ more) why
are_refused way parts more markup next why reads refused =
    (refused.part, refused_told way parts more markup next (template.Part refused.part why) reads refused.told)

-- ---- markup

-- markup with a fault of its URL was not let go
url_refused : (way : Way) (t : Tokenizer) (url : OpenUrl) (markup : List ℕ) (why : PartFault) → Reads way t url markup → url_markup way.url way.markup ≡ Err why →
    url_markup url markup ≡ Err why
url_refused way t url markup why reads told =
    ⊎_elim
    (λ (holds : Holds way url markup). sym (ap (λ u. url_markup u markup) holds.url_same) ∙ sym (ap (λ m. url_markup way.url m) holds.same) ∙ told)
    (λ (gone : LetGo way t url markup).
    let here : Ok Outside ≡ Err why = sym (ap (λ u. url_markup u way.markup) gone.outside) ∙ told in
    absurd (cc))
    reads.kept

malformed : (number : ℕ) (walk : Walk) (markup : List ℕ) (more : List Given) → is_refused (state_after walk.tokenizer markup).state ≡ true →
    PartRefused number walk (GivenMarkup markup ∷ more) fault.Malformed
malformed number walk markup more refused = record { part = number; told = rw refused refl }

of_url : (number : ℕ) (walk : Walk) (markup : List ℕ) (more : List Given) (why : PartFault) → is_refused (state_after walk.tokenizer markup).state ≡ false →
    url_markup walk.url markup ≡ Err why → PartRefused number walk (GivenMarkup markup ∷ more) why
of_url number walk markup more why read told = record { part = number; told = rw (read, told) refl }

-- the fault of markup behind which no URL is open
settled_refused : (way : Way) (number : ℕ) (walk : Walk) (markup : List ℕ) (why : PartFault) → Reads way walk.tokenizer walk.url markup →
    is_refused (state_after walk.tokenizer markup).state ≡ false → (found : Result OpenUrl PartFault) → url_markup way.url way.markup ≡ found →
    on_ok found (λ u. Ok (let_go way u)) ≡ Err why → PartRefused number walk (GivenMarkup markup ∷ []) why
settled_refused way number walk markup why reads read (Ok url) is told = let here : Ok (let_go way url) ≡ Err why = told in absurd (cc)
settled_refused way number walk markup why reads read (Err other) is told =
    let same : other ≡ why = cc in
    of_url number walk markup [] why read (url_refused way walk.tokenizer walk.url markup why reads (is ∙ ap Err same))

markup_refused : (way : Way) (number : ℕ) (walk : Walk) (markup bytes : List ℕ) (why : PartFault) → Reads way walk.tokenizer walk.url markup →
    way_behind way bytes ≡ Err why → PartRefused number walk (GivenMarkup (markup ++ bytes) ∷ []) why
markup_refused way number walk markup bytes why reads told =
    let next : Way = behind way bytes in
    let next_reads = reads_behind way walk.tokenizer walk.url markup bytes reads in
    ⊎_elim
    (λ (refused : is_refused (state_after way.tokenizer bytes).state ≡ true).
    let here : Err fault.Malformed ≡ Err why = rw refused at told in
    let same : fault.Malformed ≡ why = cc in
    subst (PartRefused number walk (GivenMarkup (markup ++ bytes) ∷ [])) same
    (malformed number walk (markup ++ bytes) [] (sym (ap (λ (u : Tokenizer). is_refused u.state) next_reads.state) ∙ refused)))
    (λ (read : is_refused (state_after way.tokenizer bytes).state ≡ false).
    let settles : settled next ≡ Err why = rw read at told in
    ⊎_elim
    (λ (in_url : is_of_urls next.tokenizer.attribute ≡ true). let here : Ok next ≡ Err why = rw in_url at settles in absurd (cc))
    (λ (outside : is_of_urls next.tokenizer.attribute ≡ false).
    settled_refused next number walk (markup ++ bytes) why next_reads (sym (ap (λ (u : Tokenizer). is_refused u.state) next_reads.state) ∙ read)
    (url_markup next.url next.markup) refl (rw outside at settles))
    (cases_Bool (is_of_urls next.tokenizer.attribute)))
    (cases_Bool (is_refused (state_after way.tokenizer bytes).state))

-- a way that is refused behind markup shows parts that are
pub markup_shown : (way : Way) (parts : List Given) (markup bytes : List ℕ) (why : PartFault) → ReadsParts way parts markup →
    way_behind (turned way bytes) bytes ≡ Err why → AreRefused (parts ++ GivenMarkup (markup ++ bytes) ∷ []) why
markup_shown way parts markup bytes why reads told =
    are_refused way parts [] markup (markup ++ bytes) why reads
    (markup_refused (turned way bytes) reads.number (turned_walk reads.walk (behind_base (markup ++ bytes))) markup bytes why
    (turned_reads way reads.walk.tokenizer reads.walk.url markup bytes reads.reads) told)

-- ---- slots

-- a slot in a URL that was not open where markup was let go: the byte that begins its value is in what was kept
any_begins : (p : SlotPlace) (way : Way) (t : Tokenizer) (url : OpenUrl) (markup : List ℕ) → way.tokenizer ≡ state_after t markup → LetGo way t url markup →
    is_of_urls way.tokenizer.attribute ≡ true → is_at p way.tokenizer.state ≡ true → list_any (begins_value p) way.markup ≡ true
any_begins p way t url markup state gone of at =
    let from : Tokenizer = state_after t gone.front in
    let there : way.tokenizer ≡ state_after from way.markup = state ∙ ap (state_after t) gone.whole ∙ state_after-append t gone.front way.markup in
    ⊎_elim
    (λ (any : list_any (begins_value p) way.markup ≡ true). any)
    (λ (none : list_any (begins_value p) way.markup ≡ false).
    let open_before = walks_back p from way.markup (no_url_tame from gone.free) (subst (λ (u : Tokenizer). is_of_urls u.attribute ≡ true) there of)
    (subst (λ (u : Tokenizer). is_at p u.state ≡ true) there at) none in
    absurd (true≢false (sym open_before.of ∙ gone.free)))
    (cases_Bool (list_any (begins_value p) way.markup))

is_marked : (p : SlotPlace) (way : Way) (t : Tokenizer) (url : OpenUrl) (markup : List ℕ) → way.tokenizer ≡ state_after t markup → LetGo way t url markup →
    in_url p (standing way.tokenizer) ≡ true → list_any (begins_url false p) way.markup ≡ true
is_marked p way t url markup state gone stands =
    let here = stands_in_url p way.tokenizer stands in any_begins p way t url markup state gone (of_open way.tokenizer.attribute here.url_open) here.at

-- or of a list
any_weaker : (p : SlotPlace) (markup : List ℕ) → list_any (begins_value p) markup ≡ true → list_any (begins_url true p) markup ≡ true
any_weaker p [] any = any
any_weaker p (b ∷ markup) any =
    ⊎_elim
    (λ (here : begins_value p b ≡ true). rw here refl)
    (λ (other : begins_value p b ≡ false). or_right (begins_url true p b) (list_any (begins_url true p) markup) (any_weaker p markup (rw other at any)))
    (cases_Bool (begins_value p b))

is_marked_in_list : (p : SlotPlace) (way : Way) (t : Tokenizer) (url : OpenUrl) (markup : List ℕ) → way.tokenizer ≡ state_after t markup → LetGo way t url markup →
    in_listed_url p (standing way.tokenizer) ≡ true → list_any (begins_url true p) way.markup ≡ true
is_marked_in_list p way t url markup state gone stands =
    let here = stands_in_list p way.tokenizer stands in
    any_weaker p way.markup (any_begins p way t url markup state gone (ap is_of_urls here.attribute_is) (rw here.state_is (inside_at p (In p) (same_place p))))

last_same : (test : ℕ → Bool) (front markup : List ℕ) → list_any test markup ≡ true → after_last test (front ++ markup) ≡ after_last test markup
last_same test [] markup any = refl
last_same test (b ∷ front) markup any = rw (any_more test front markup any) (last_same test front markup any)

slot_same : (way : Way) (t : Tokenizer) (url : OpenUrl) (markup : List ℕ) (s : Standing) → way.tokenizer ≡ state_after t markup → LetGo way t url markup →
    standing way.tokenizer ≡ s → slot_at markup Outside s ≡ slot_at way.markup Outside s
slot_same way t url markup (InUrl p) state gone is =
    ap (λ m. first_slot false p false (after_last (begins_value p) m)) gone.whole
    ∙ ap (first_slot false p false)
    (last_same (begins_value p) gone.front way.markup (is_marked p way t url markup state gone (ap (in_url p) is ∙ same_place p)))
slot_same way t url markup (InLink p) state gone is =
    ap (λ m. first_slot false p true (after_last (begins_value p) m)) gone.whole
    ∙ ap (first_slot false p true)
    (last_same (begins_value p) gone.front way.markup (is_marked p way t url markup state gone (ap (in_url p) is ∙ same_place p)))
slot_same way t url markup (InListedUrl p) state gone is =
    ap (λ m. first_slot true p false (after_last (begins_url true p) m)) gone.whole
    ∙ ap (first_slot true p false)
    (last_same (begins_url true p) gone.front way.markup (is_marked_in_list p way t url markup state gone (ap (in_listed_url p) is ∙ same_place p)))
slot_same way t url markup (Stands p) state gone is = refl
slot_same way t url markup (InDeclaration p) state gone is = refl
slot_same way t url markup InScript state gone is = refl
slot_same way t url markup InJson state gone is = refl
slot_same way t url markup Barred state gone is = refl
slot_same way t url markup Nowhere state gone is = refl

-- of a slot behind markup, where the parts have it
slot_part : (number : ℕ) (walk : Walk) (markup : List ℕ) (opened : OpenUrl) (why : PartFault) → is_refused (state_after walk.tokenizer markup).state ≡ false →
    url_markup walk.url markup ≡ Ok opened → slot_at markup opened (standing (state_after walk.tokenizer markup)) ≡ Err why →
    PartRefused number walk (GivenMarkup markup ∷ GivenSlot ∷ []) why
slot_part number walk markup opened why read told refused =
    record { part = faulty_part (number + 1) why; told = rw (read, told, refused) refl }

placed_refused : (way : Way) (number : ℕ) (walk : Walk) (markup : List ℕ) (opened : OpenUrl) (why : PartFault) → Reads way walk.tokenizer walk.url markup →
    is_refused (state_after walk.tokenizer markup).state ≡ false → url_markup way.url way.markup ≡ Ok opened → slot_in way opened ≡ Err why →
    PartRefused number walk (GivenMarkup markup ∷ GivenSlot ∷ []) why
placed_refused way number walk markup opened why reads read told refused =
    ⊎_elim
    (λ (holds : Holds way walk.url markup).
    slot_part number walk markup opened why read
    (sym (ap (λ u. url_markup u markup) holds.url_same) ∙ sym (ap (λ m. url_markup way.url m) holds.same) ∙ told)
    (sym (ap (λ m. slot_at m opened (standing (state_after walk.tokenizer markup))) holds.same)
    ∙ sym (ap (λ u. slot_at way.markup opened (standing u)) reads.state) ∙ refused))
    (λ (gone : LetGo way walk.tokenizer walk.url markup).
    let outside : opened ≡ Outside = opened_outside way opened gone.outside told in
    slot_part number walk markup Outside why read
    (ap (url_markup walk.url) gone.whole ∙ ended_more walk.url gone.front way.markup gone.ended)
    (sym (ap (λ u. slot_at markup Outside (standing u)) reads.state)
    ∙ slot_same way walk.tokenizer walk.url markup (standing way.tokenizer) reads.state gone refl
    ∙ subst (λ u. slot_in way u ≡ Err why) outside refused))
    reads.kept

found_refused : (way : Way) (number : ℕ) (walk : Walk) (markup : List ℕ) (why : PartFault) → Reads way walk.tokenizer walk.url markup →
    is_refused (state_after walk.tokenizer markup).state ≡ false → (found : Result OpenUrl PartFault) → url_markup way.url way.markup ≡ found →
    on_ok found (slot_in way) ≡ Err why → PartRefused number walk (GivenMarkup markup ∷ GivenSlot ∷ []) why
found_refused way number walk markup why reads read (Ok opened) is told = placed_refused way number walk markup opened why reads read is told
found_refused way number walk markup why reads read (Err other) is told =
    let same : other ≡ why = cc in
    of_url number walk markup (GivenSlot ∷ []) why read (url_refused way walk.tokenizer walk.url markup why reads (is ∙ ap Err same))

slot_refused : (way : Way) (number : ℕ) (walk : Walk) (markup : List ℕ) (why : PartFault) → Reads way walk.tokenizer walk.url markup → way_slot way ≡ Err why →
    PartRefused number walk (GivenMarkup markup ∷ GivenSlot ∷ []) why
slot_refused way number walk markup why reads told =
    ⊎_elim
    (λ (refused : is_refused way.tokenizer.state ≡ true).
    let here : Err fault.Malformed ≡ Err why = rw refused at told in
    let same : fault.Malformed ≡ why = cc in
    subst (PartRefused number walk (GivenMarkup markup ∷ GivenSlot ∷ [])) same
    (malformed number walk markup (GivenSlot ∷ []) (sym (ap (λ (u : Tokenizer). is_refused u.state) reads.state) ∙ refused)))
    (λ (read : is_refused way.tokenizer.state ≡ false).
    found_refused way number walk markup why reads (sym (ap (λ (u : Tokenizer). is_refused u.state) reads.state) ∙ read)
    (url_markup way.url way.markup) refl (rw read at told))
    (cases_Bool (is_refused way.tokenizer.state))

pub slot_shown : (way : Way) (parts : List Given) (markup : List ℕ) (why : PartFault) → ReadsParts way parts markup → way_slot way ≡ Err why →
    AreRefused (parts ++ GivenMarkup markup ∷ GivenSlot ∷ []) why
slot_shown way parts markup why reads told =
    are_refused way parts (GivenSlot ∷ []) markup markup why reads
    (slot_refused way reads.number (turned_walk reads.walk (behind_base markup)) markup why reads.reads told)

-- ---- the end

-- a page would end on this way within a tag, a reference or an element
end_told : (number : ℕ) (walk : Walk) (markup : List ℕ) (opened : OpenUrl) → is_refused (state_after walk.tokenizer markup).state ≡ false →
    url_markup walk.url markup ≡ Ok opened → may_end (state_after walk.tokenizer markup) ≡ false →
    pieces_from number walk (GivenMarkup markup ∷ []) ≡ Err template.Unfinished
end_told number walk markup opened read told may = rw (read, told, may) refl

url_read : (way : Way) (t : Tokenizer) (url opened : OpenUrl) (markup : List ℕ) → Reads way t url markup → url_markup way.url way.markup ≡ Ok opened →
    (found : OpenUrl) × (url_markup url markup ≡ Ok found)
url_read way t url opened markup reads told =
    ⊎_elim
    (λ (holds : Holds way url markup).
    (opened, sym (ap (λ u. url_markup u markup) holds.url_same) ∙ sym (ap (λ m. url_markup way.url m) holds.same) ∙ told))
    (λ (gone : LetGo way t url markup). (Outside, ap (url_markup url) gone.whole ∙ ended_more url gone.front way.markup gone.ended))
    reads.kept

pub end_shown : (way : Way) (parts : List Given) (markup : List ℕ) (opened : OpenUrl) → ReadsParts way parts markup → is_refused way.tokenizer.state ≡ false →
    may_end way.tokenizer ≡ false → url_markup way.url way.markup ≡ Ok opened → template_of (parts ++ GivenMarkup markup ∷ []) ≡ Err template.Unfinished
end_shown way parts markup opened reads read may told =
    let walk : Walk = turned_walk reads.walk (behind_base markup) in
    let found = url_read way walk.tokenizer walk.url opened markup reads.reads told in
    refused_told way parts [] markup markup template.Unfinished reads
    (end_told reads.number walk markup found.0 (sym (ap (λ (u : Tokenizer). is_refused u.state) reads.reads.state) ∙ read) found.1
    (sym (ap may_end reads.reads.state) ∙ may))
