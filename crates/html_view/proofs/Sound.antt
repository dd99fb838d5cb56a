-- Each unrolling of sound nodes is a template, and its page is one of that template.
use Rattle.std.proofs.Common.{ℕ, ◌≡◌, ◌⊎◌, ◌+◌, true, false, List, [], ◌∷◌, ◌++◌, map, IsUtf8, Result, Ok, Err, refl, sym, ap, ◌∙◌, subst, inl, inr, ⊎_elim, append_assoc, append-nil}
use Rattle.std.specs.List.{AllByRecursion}
use Rattle.std.proofs.lemmas.Bool.{cases_Bool}
use Rattle.html_template.specs.OpenUrls.{before, url_markup}
use Rattle.html_template.specs.Structure.{IsPageOf}
use Rattle.html_template.specs.TemplateFaults.{Walk, at_beginning, behind_markup, behind_slot, next_markup, pieces_from, put, slot_at}
use Rattle.html_template.specs.Templates.{Chunk, Fill, Given, Markup, Slot, after_slot, page, part_of, written}
use Rattle.html_template.specs.declared.faults.PartFault.{PartFault}
use Rattle.html_template.specs.declared.faults.PartFault.TheVariants as fault
use Rattle.html_template.specs.declared.open_url.OpenUrl.{OpenUrl}
use Rattle.html_template.specs.declared.open_url.OpenUrl.TheVariants.{Outside, Within, Listed, Whole, Front, Declaration}
use Rattle.html_template.specs.declared.open_url.PlacedSlot.{PlacedSlot}
use Rattle.html_tokenizer.specs.Standing.{is_refused, may_end, standing}
use Rattle.html_tokenizer.specs.Tokenizer.States.{Tokenizer}
use Rattle.html_tokenizer.specs.Tokenizer.Tokenization.{state_after}
use Rattle.html_tokenizer.specs.UrlValues.{is_of_urls}
use Rattle.html_tokenizer.proofs.Passing.{state_after-append}
use Rattle.html_template.proofs.Fronts.{guess_told}
use Rattle.html_template.proofs.JoinedParts.{is_template_of, placed_of}
use Rattle.html_template.proofs.Pieces.{at_markup}
use Rattle.html_view.specs.Nodes.{Nodes, Placed}
use Rattle.html_view.specs.Takes.{AreSound}
use Rattle.html_view.specs.Unrolled.{AreTemplates, Unrolls, joined, joined_behind}
use Rattle.html_view.specs.Ways.{MayEnd, Way, behind, first_way, let_go, on_ok, settled, slot_in, way_behind, way_slot}
use Rattle.html_view.proofs.Runs.{Runs, leads}
use Rattle.html_view.proofs.Steps.{ended_more, slot_more}

-- ---- what a way keeps

-- all of the markup since the last slot, and what was open of a URL there
pub record Holds (way : Way) (url : OpenUrl) (markup : List ℕ) : Type 0 where
  pub same : way.markup ≡ markup
  pub url_same : way.url ≡ url

-- or it let the front go, in which the URL ended, and behind which no URL is open
pub record LetGo (way : Way) (t : Tokenizer) (url : OpenUrl) (markup : List ℕ) : Type 0 where
  pub front : List ℕ
  pub whole : markup ≡ front ++ way.markup
  pub outside : way.url ≡ Outside
  pub ended : url_markup url front ≡ Ok Outside
  pub free : is_of_urls (state_after t front).attribute ≡ false

-- the way is where the tokenizer comes from the last slot by this markup
pub record Reads (way : Way) (t : Tokenizer) (url : OpenUrl) (markup : List ℕ) : Type 0 where
  pub state : way.tokenizer ≡ state_after t markup
  pub kept : Holds way url markup ⊎ LetGo way t url markup

-- ---- markup

pub reads_behind : (way : Way) (t : Tokenizer) (url : OpenUrl) (markup bytes : List ℕ) → Reads way t url markup → Reads (behind way bytes) t url (markup ++ bytes)
reads_behind way t url markup bytes reads = record {
  state = ap (λ u. state_after u bytes) reads.state ∙ sym (state_after-append t markup bytes);
  kept = ⊎_elim
      (λ (holds : Holds way url markup). inl (record { same = ap (λ x. x ++ bytes) holds.same; url_same = holds.url_same }))
      (λ (let_go : LetGo way t url markup). inr (record {
        front = let_go.front;
        whole = ap (λ x. x ++ bytes) let_go.whole ∙ append_assoc let_go.front way.markup bytes;
        outside = let_go.outside;
        ended = let_go.ended;
        free = let_go.free;
      }))
      reads.kept;
}

-- the URL that was open at the last slot ended in all of the markup
ended_in : (way : Way) (t : Tokenizer) (url : OpenUrl) (markup : List ℕ) → Holds way url markup ⊎ LetGo way t url markup → url_markup way.url way.markup ≡ Ok Outside →
    url_markup url markup ≡ Ok Outside
ended_in way t url markup kept told =
    ⊎_elim
    (λ (holds : Holds way url markup). sym (ap (λ u. url_markup u markup) holds.url_same) ∙ sym (ap (λ m. url_markup way.url m) holds.same) ∙ told)
    (λ (gone : LetGo way t url markup). ap (url_markup url) gone.whole ∙ ended_more url gone.front way.markup gone.ended)
    kept

reads_let_go : (way next : Way) (t : Tokenizer) (url : OpenUrl) (markup : List ℕ) → Reads way t url markup →
    is_of_urls way.tokenizer.attribute ≡ false → (found : Result OpenUrl PartFault) → url_markup way.url way.markup ≡ found → on_ok found (λ u. Ok (let_go way u)) ≡ Ok next →
    Reads next t url markup
reads_let_go way next t url markup reads free (Err f) is told = absurd (cc)
reads_let_go way next t url markup reads free (Ok Outside) is told =
    let here : let_go way Outside ≡ next = cc in
    subst (λ w. Reads w t url markup) here (record {
      state = reads.state;
      kept = inr (record { front = markup; whole = sym (append-nil markup); outside = refl; ended = ended_in way t url markup reads.kept is; free = sym (ap (λ (u : Tokenizer). is_of_urls u.attribute) reads.state) ∙ free });
    })
reads_let_go way next t url markup reads free (Ok (Within q open_part)) is told =
    let here : way ≡ next = cc in
    subst (λ w. Reads w t url markup) here reads
reads_let_go way next t url markup reads free (Ok (Listed q open_part)) is told =
    let here : way ≡ next = cc in
    subst (λ w. Reads w t url markup) here reads
reads_let_go way next t url markup reads free (Ok (Whole q)) is told =
    let here : way ≡ next = cc in
    subst (λ w. Reads w t url markup) here reads
reads_let_go way next t url markup reads free (Ok (Front q behind)) is told =
    let here : way ≡ next = cc in
    subst (λ w. Reads w t url markup) here reads
reads_let_go way next t url markup reads free (Ok (Declaration q)) is told =
    let here : way ≡ next = cc in
    subst (λ w. Reads w t url markup) here reads

reads_settled : (way next : Way) (t : Tokenizer) (url : OpenUrl) (markup : List ℕ) → Reads way t url markup → settled way ≡ Ok next → Reads next t url markup
reads_settled way next t url markup reads told =
    ⊎_elim
    (λ (in_url : is_of_urls way.tokenizer.attribute ≡ true).
    let same : Ok way ≡ Ok next = rw in_url at told in
    let here : way ≡ next = cc in
    subst (λ w. Reads w t url markup) here reads)
    (λ (outside : is_of_urls way.tokenizer.attribute ≡ false).
    reads_let_go way next t url markup reads outside (url_markup way.url way.markup) refl (rw outside at told))
    (cases_Bool (is_of_urls way.tokenizer.attribute))

pub reads_markup : (way next : Way) (t : Tokenizer) (url : OpenUrl) (markup bytes : List ℕ) → Reads way t url markup → way_behind way bytes ≡ Ok next →
    Reads next t url (markup ++ bytes)
reads_markup way next t url markup bytes reads told =
    ⊎_elim
    (λ (refused : is_refused (state_after way.tokenizer bytes).state ≡ true).
    let here : Err fault.Malformed ≡ Ok next = rw refused at told in absurd (cc))
    (λ (read : is_refused (state_after way.tokenizer bytes).state ≡ false).
    reads_settled (behind way bytes) next t url (markup ++ bytes) (reads_behind way t url markup bytes reads) (rw read at told))
    (cases_Bool (is_refused (state_after way.tokenizer bytes).state))

-- ---- slots

-- a slot behind markup, as the parts have it
pub record AtSlot (t : Tokenizer) (url : OpenUrl) (markup : List ℕ) (slot : PlacedSlot) : Type 0 where
  pub read : is_refused (state_after t markup).state ≡ false
  pub opened : OpenUrl
  pub told : url_markup url markup ≡ Ok opened
  pub stands : slot_at markup opened (standing (state_after t markup)) ≡ Ok slot

slot_held : (way : Way) (t : Tokenizer) (url opened : OpenUrl) (markup : List ℕ) (slot : PlacedSlot) → way.tokenizer ≡ state_after t markup →
    is_refused way.tokenizer.state ≡ false → Holds way url markup → url_markup way.url way.markup ≡ Ok opened → slot_in way opened ≡ Ok slot →
    AtSlot t url markup slot
slot_held way t url opened markup slot state read holds told is = record {
  read = sym (ap (λ (u : Tokenizer). is_refused u.state) state) ∙ read;
  opened = opened;
  told = (sym (ap (λ u. url_markup u markup) holds.url_same) ∙ sym (ap (λ m. url_markup way.url m) holds.same) ∙ told);
  stands = (sym (ap (λ m. slot_at m opened (standing (state_after t markup))) holds.same)
      ∙ sym (ap (λ u. slot_at way.markup opened (standing u)) state) ∙ is);
}

slot_behind_gone : (way : Way) (t : Tokenizer) (url : OpenUrl) (markup : List ℕ) (slot : PlacedSlot) → way.tokenizer ≡ state_after t markup →
    is_refused way.tokenizer.state ≡ false → LetGo way t url markup → slot_in way Outside ≡ Ok slot → AtSlot t url markup slot
slot_behind_gone way t url markup slot state read gone is = record {
  read = sym (ap (λ (u : Tokenizer). is_refused u.state) state) ∙ read;
  opened = Outside;
  told = (ap (url_markup url) gone.whole ∙ ended_more url gone.front way.markup gone.ended);
  stands = (ap (λ m. slot_at m Outside (standing (state_after t markup))) gone.whole
      ∙ sym (ap (λ u. slot_at (gone.front ++ way.markup) Outside (standing u)) state)
      ∙ slot_more (standing way.tokenizer) slot gone.front way.markup is);
}

pub opened_outside : (way : Way) (opened : OpenUrl) → way.url ≡ Outside → url_markup way.url way.markup ≡ Ok opened → opened ≡ Outside
opened_outside way opened outside told =
    let here : Ok Outside ≡ Ok opened = sym (ap (λ u. url_markup u way.markup) outside) ∙ told in
    cc

slot_told : (way : Way) (t : Tokenizer) (url : OpenUrl) (markup : List ℕ) (slot : PlacedSlot) → Reads way t url markup →
    is_refused way.tokenizer.state ≡ false → (found : Result OpenUrl PartFault) → url_markup way.url way.markup ≡ found →
    on_ok found (slot_in way) ≡ Ok slot → AtSlot t url markup slot
slot_told way t url markup slot reads read (Err f) is told = absurd (cc)
slot_told way t url markup slot reads read (Ok opened) is told =
    ⊎_elim
    (λ (holds : Holds way url markup). slot_held way t url opened markup slot reads.state read holds is told)
    (λ (gone : LetGo way t url markup).
    slot_behind_gone way t url markup slot reads.state read gone
    (subst (λ u. slot_in way u ≡ Ok slot) (opened_outside way opened gone.outside is) told))
    reads.kept

pub reads_slot : (way : Way) (t : Tokenizer) (url : OpenUrl) (markup : List ℕ) (slot : PlacedSlot) → Reads way t url markup →
    way_slot way ≡ Ok slot → AtSlot t url markup slot
reads_slot way t url markup slot reads told =
    ⊎_elim
    (λ (refused : is_refused way.tokenizer.state ≡ true). let here : Err fault.Malformed ≡ Ok slot = rw refused at told in absurd (cc))
    (λ (read : is_refused way.tokenizer.state ≡ false).
    slot_told way t url markup slot reads read (url_markup way.url way.markup) refl (rw read at told))
    (cases_Bool (is_refused way.tokenizer.state))

-- ---- the end

record AtEnd (t : Tokenizer) (url : OpenUrl) (markup : List ℕ) : Type 0 where
  read : is_refused (state_after t markup).state ≡ false
  opened : OpenUrl
  told : url_markup url markup ≡ Ok opened
  may : may_end (state_after t markup) ≡ true

reads_end : (way : Way) (t : Tokenizer) (url : OpenUrl) (markup : List ℕ) → Reads way t url markup → MayEnd way → AtEnd t url markup
reads_end way t url markup reads end =
    ⊎_elim
    (λ (holds : Holds way url markup). record {
      read = sym (ap (λ (u : Tokenizer). is_refused u.state) reads.state) ∙ end.read;
      opened = end.url;
      told = (sym (ap (λ u. url_markup u markup) holds.url_same) ∙ sym (ap (λ m. url_markup way.url m) holds.same) ∙ end.told);
      may = sym (ap may_end reads.state) ∙ end.may;
    })
    (λ (gone : LetGo way t url markup). record {
      read = sym (ap (λ (u : Tokenizer). is_refused u.state) reads.state) ∙ end.read;
      opened = Outside;
      told = (ap (url_markup url) gone.whole ∙ ended_more url gone.front way.markup gone.ended);
      may = sym (ap may_end reads.state) ∙ end.may;
    })
    reads.kept

-- ---- all pieces

-- the guess at a slot was right where the markup behind it was taken
next_guessed : (pieces : List Chunk) (markup guess : List ℕ) (found : PlacedSlot) (number : ℕ) (walk : Walk) (chunks : List Chunk) → walk.url ≡ (before guess found).url →
    pieces_from number walk (map part_of (joined_behind markup pieces)) ≡ Ok chunks →
    before (next_markup (map part_of (joined_behind markup pieces))) found ≡ before guess found
next_guessed [] markup guess found number walk chunks is told =
    let at = at_markup number walk markup [] chunks told in
    guess_told guess markup found at.url (sym (ap (λ u. url_markup u markup) is) ∙ at.opened)
next_guessed (Markup bytes ∷ pieces) markup guess found number walk chunks is told =
    next_guessed pieces (markup ++ bytes) guess found number walk chunks is told
next_guessed (Slot p kind ∷ pieces) markup guess found number walk chunks is told =
    let at = at_markup number walk markup (map part_of (Slot p kind ∷ joined_behind [] pieces)) chunks told in
    guess_told guess markup found at.url (sym (ap (λ u. url_markup u markup) is) ∙ at.opened)

sound_from : (pieces : List Chunk) (number : ℕ) (walk : Walk) (way last : Way) (markup : List ℕ) → Reads way walk.tokenizer walk.url markup →
    Runs way pieces last → MayEnd last → pieces_from number walk (map part_of (joined_behind markup pieces)) ≡ Ok (joined_behind markup pieces)
sound_from [] number walk way last markup reads runs end =
    let here = reads_end way walk.tokenizer walk.url markup reads (subst MayEnd (sym runs) end) in
    rw (here.read, here.told, here.may) refl
sound_from (Markup bytes ∷ pieces) number walk way last markup reads runs end =
    sound_from pieces number walk runs.0 last (markup ++ bytes) (reads_markup way runs.0 walk.tokenizer walk.url markup bytes reads runs.1) runs.2 end
sound_from (Slot p kind ∷ pieces) number walk way last markup reads runs end =
    let past = runs.1 in
    let here = reads_slot way walk.tokenizer walk.url markup past.found reads past.stands in
    let slot : PlacedSlot = before past.guess past.found in
    let next : Walk = behind_slot (behind_markup walk markup here.opened) slot in
    let next_reads : Reads runs.0 next.tokenizer next.url [] =
    subst (λ w. Reads w next.tokenizer next.url []) past.goes
    (record {
      state = ap (after_slot slot.place slot.kind) reads.state;
      kept = inl (record { same = refl; url_same = refl });
    }) in
    let rest = sound_from pieces (number + 1 + 1) next runs.0 last [] next_reads runs.2 end in
    let guessed : before (next_markup (map part_of (joined_behind [] pieces))) past.found ≡ slot =
    next_guessed pieces [] past.guess past.found (number + 1 + 1) next (joined_behind [] pieces) refl rest in
    rw (here.read, here.told, here.stands, guessed)
    (ap (λ told. put (Markup markup) (put (Slot slot.place slot.kind) told)) rest
    ∙ ap (λ q. Ok (Markup markup ∷ Slot q slot.kind ∷ joined_behind [] pieces)) past.place
    ∙ ap (λ k. Ok (Markup markup ∷ Slot p k ∷ joined_behind [] pieces)) past.kind_is)

-- each unrolling of sound nodes is a template
pub ways_sound : (nodes : Nodes Placed) → AreSound nodes → AreTemplates nodes
ways_sound nodes sound pieces unrolls =
    let run = leads nodes (first_way ∷ []) sound.ways sound.taken pieces unrolls first_way (inl refl) in
    sound_from pieces 0 at_beginning first_way run.last []
    (record { state = refl; kept = inl (record { same = refl; url_same = refl }) }) run.runs (sound.end run.last run.among)

-- ---- its page

page_behind : (markup : List ℕ) (pieces : List Chunk) (texts : List (List ℕ)) → page (joined_behind markup pieces) texts ≡ markup ++ page pieces texts
page_behind markup [] texts = refl
page_behind markup (Markup bytes ∷ pieces) texts = page_behind (markup ++ bytes) pieces texts ∙ append_assoc markup bytes (page pieces texts)
page_behind markup (Slot p kind ∷ pieces) [] = ap (λ x. markup ++ x) (page_behind [] pieces [])
page_behind markup (Slot p kind ∷ pieces) (text ∷ texts) = ap (λ x. markup ++ (written p kind text ++ x)) (page_behind [] pieces texts)

pub joined_page : (pieces : List Chunk) (texts : List (List ℕ)) → page (joined pieces) texts ≡ page pieces texts
joined_page pieces texts = page_behind [] pieces texts

fill_behind : (markup : List ℕ) (pieces : List Chunk) (texts : List (List ℕ)) → Fill pieces texts → Fill (joined_behind markup pieces) texts
fill_behind markup [] [] full = tt
fill_behind markup [] (text ∷ texts) full = absurd full
fill_behind markup (Markup bytes ∷ pieces) texts full = fill_behind (markup ++ bytes) pieces texts full
fill_behind markup (Slot p kind ∷ pieces) [] full = absurd full
fill_behind markup (Slot p kind ∷ pieces) (text ∷ texts) full = (full.0, fill_behind [] pieces texts full.1)

pub joined_fill : (pieces : List Chunk) (texts : List (List ℕ)) → Fill pieces texts → Fill (joined pieces) texts
joined_fill pieces texts full = fill_behind [] pieces texts full

-- the page of an unrolling is a page of its template
pub is_page_of : (nodes : Nodes Placed) (pieces : List Chunk) (texts : List (List ℕ)) → AreTemplates nodes → Unrolls nodes pieces → Fill pieces texts →
    AllByRecursion IsUtf8 texts → IsPageOf (map part_of (joined pieces)) texts (page pieces texts)
is_page_of nodes pieces texts sound unrolls full utf8 =
    let parts : List Given = map part_of (joined pieces) in
    let told = sound pieces unrolls in
    let same = placed_of parts (joined pieces) told in
    record {
      template = is_template_of parts (joined pieces) told;
      full = subst (λ p. Fill p texts) (sym same) (joined_fill pieces texts full);
      utf8 = utf8;
      whole = ap (λ p. page p texts) same ∙ joined_page pieces texts;
    }
