-- The parts of two templates, one after the other, are a template's.
use Rattle.std.proofs.Common.{ℕ, ◌≡◌, ◌+◌, true, false, List, [], ◌∷◌, ◌++◌, Ok, refl, sym, ap, subst, arith}
use Rattle.std.proofs.lemmas.Bool.Decides.{nat_tests}
use Rattle.html_template.specs.declared.open_url.OpenUrl.{OpenUrl}
use Rattle.html_template.specs.declared.open_url.OpenUrl.TheVariants.{Outside}
use Rattle.html_template.specs.declared.open_url.PlacedSlot.{PlacedSlot}
use Rattle.html_template.specs.TemplateFaults.{Told, Walk, at_beginning, behind_markup, behind_slot, is_template, is_told, next_markup, pieces_from, placed, slot_at, template_of, told_chunks}
use Rattle.html_template.specs.OpenUrls.{before, url_markup}
use Rattle.html_template.specs.Slots.{past_slot}
use Rattle.html_template.specs.Templates.{Chunk, Given, GivenMarkup, GivenSlot, Markup, Slot, after_slot}
use Rattle.html_tokenizer.specs.Standing.{is_refused, standing}
use Rattle.html_tokenizer.specs.Tokenizer.Tokenization.{state_after}
use Rattle.html_tokenizer.specs.Tokenizer.States.{data_state}
use Rattle.html_tokenizer.proofs.UrlValues.Slots.Tame.{IsTame, data_state_is_tame, tame_after}
use Rattle.html_template.proofs.Pieces.{ends_in_data}
use Rattle.html_template.proofs.PageUrls.OpenPlaces.{OpenStands, markup_stands, none_open, slot_stands}
use Rattle.html_template.proofs.PageUrls.SlotSteps.{tame_behind}
use Rattle.html_template.proofs.Pieces.{at_end, at_markup, at_slot}
use Rattle.html_template.proofs.Walks.{before_suits}

-- ---- the number of a part decides only what its fault tells

-- markup before pieces that are told, and a slot
markup_before : (number : ℕ) (walk : Walk) (bytes : List ℕ) (parts : List Given) (url : OpenUrl) (rest : List Chunk) →
    is_refused (state_after walk.tokenizer bytes).state ≡ false → url_markup walk.url bytes ≡ Ok url →
    pieces_from (number + 1) (behind_markup walk bytes url) parts ≡ Ok rest → pieces_from number walk (GivenMarkup bytes ∷ parts) ≡ Ok (Markup bytes ∷ rest)
markup_before number walk bytes parts url rest read opened told = rw (read, opened, told) refl

slot_before : (number : ℕ) (walk : Walk) (parts : List Given) (found slot : PlacedSlot) (rest : List Chunk) →
    slot_at walk.markup walk.url (standing walk.tokenizer) ≡ Ok found → before (next_markup parts) found ≡ slot →
    pieces_from (number + 1) (behind_slot walk slot) parts ≡ Ok rest → pieces_from number walk (GivenSlot ∷ parts) ≡ Ok (Slot slot.place slot.kind ∷ rest)
slot_before number walk parts found slot rest placed is told = rw (placed, is, told) refl

pieces_number : (n m : ℕ) (walk : Walk) (parts : List Given) (chunks : List Chunk) → pieces_from n walk parts ≡ Ok chunks → pieces_from m walk parts ≡ Ok chunks
pieces_number n m walk [] chunks told = told
pieces_number n m walk (GivenMarkup bytes ∷ parts) chunks told =
    let here = at_markup n walk bytes parts chunks told in
    rw here.whole
    (markup_before m walk bytes parts here.url here.rest here.read here.opened
    (pieces_number (n + 1) (m + 1) (behind_markup walk bytes here.url) parts here.rest here.told))
pieces_number n m walk (GivenSlot ∷ parts) chunks told =
    let here = at_slot n walk parts chunks told in
    rw here.whole
    (slot_before m walk parts here.found (before (next_markup parts) here.found) here.rest here.placed refl
    (pieces_number (n + 1) (m + 1) (behind_slot walk (before (next_markup parts) here.found)) parts here.rest here.told))

-- ---- two templates

-- behind a template another one begins as at the front of a page
abbrev behind_template : List ℕ → Walk
behind_template markup = record { tokenizer = data_state; markup = markup; url = Outside }

begins_anew : (number : ℕ) (markup : List ℕ) (parts : List Given) (chunks : List Chunk) → template_of parts ≡ Ok chunks →
    pieces_from number (behind_template markup) parts ≡ Ok chunks
begins_anew number markup [] chunks told = told
begins_anew number markup (GivenMarkup bytes ∷ parts) chunks told =
    let here = at_markup 0 at_beginning bytes parts chunks told in
    rw here.whole
    (markup_before number (behind_template markup) bytes parts here.url here.rest here.read here.opened
    (pieces_number 1 (number + 1) (behind_markup (behind_template markup) bytes here.url) parts here.rest here.told))
begins_anew number markup (GivenSlot ∷ parts) chunks told =
    let here = at_slot 0 at_beginning parts chunks told in
    rw here.whole
    (slot_before number (behind_template markup) parts here.found (before (next_markup parts) here.found) here.rest here.placed refl
    (pieces_number 1 (number + 1) (behind_slot (behind_template markup) (before (next_markup parts) here.found)) parts here.rest here.told))

begins_where : (number : ℕ) (walk : Walk) (parts : List Given) (chunks : List Chunk) → walk.tokenizer ≡ data_state → walk.url ≡ Outside →
    template_of parts ≡ Ok chunks → pieces_from number walk parts ≡ Ok chunks
begins_where number walk parts chunks ended closed told = rw (ended, closed) (begins_anew number walk.markup parts chunks told)

told_behind_slot : (walk : Walk) (slot : PlacedSlot) → after_slot slot.place slot.kind walk.tokenizer ≡ past_slot slot.place slot.kind walk.tokenizer →
    IsTame (past_slot slot.place slot.kind walk.tokenizer) → OpenStands slot.url (past_slot slot.place slot.kind walk.tokenizer) →
    IsTame (behind_slot walk slot).tokenizer × OpenStands (behind_slot walk slot).url (behind_slot walk slot).tokenizer
told_behind_slot walk slot goes tame stands = (subst IsTame (sym goes) tame, subst (OpenStands slot.url) (sym goes) stands)

-- the last one of a template is
last_told : (number : ℕ) (walk : Walk) (found : PlacedSlot) (parts : List Given) (rest : List Chunk) → parts ≡ [] →
    pieces_from number (behind_slot walk (before (next_markup parts) found)) parts ≡ Ok rest →
    IsTame (behind_slot walk (before (next_markup parts) found)).tokenizer →
    OpenStands (behind_slot walk (before (next_markup parts) found)).url (behind_slot walk (before (next_markup parts) found)).tokenizer →
    (before [] found).url ≡ Outside
last_told number walk found [] rest none told tame stands =
    let here : Walk = behind_slot walk (before [] found) in
    none_open here.url here.tokenizer tame (at_end number here rest told).may stands
last_told number walk found (part ∷ parts) rest none told tame stands = absurd (cc)

same_next : (first second : List Given) (found : PlacedSlot) → (first ≡ [] → (before [] found).url ≡ Outside) →
    before (next_markup (first ++ second)) found ≡ before (next_markup first) found
same_next first second found ends = grind (arith, nat_tests)

joined_from : (number : ℕ) (walk : Walk) (first second : List Given) (one two : List Chunk) → pieces_from number walk first ≡ Ok one →
    IsTame walk.tokenizer → OpenStands walk.url walk.tokenizer → template_of second ≡ Ok two → pieces_from number walk (first ++ second) ≡ Ok (one ++ two)
joined_from number walk [] second one two told tame stands next =
    let end = at_end number walk one told in
    rw end.none
    (begins_where number walk second two (ends_in_data walk.tokenizer end.may) (none_open walk.url walk.tokenizer tame end.may stands) next)
joined_from number walk (GivenMarkup bytes ∷ first) second one two told tame stands next =
    let here = at_markup number walk bytes first one told in
    rw here.whole
    (markup_before number walk bytes (first ++ second) here.url (here.rest ++ two) here.read here.opened
    (joined_from (number + 1) (behind_markup walk bytes here.url) first second here.rest two here.told (tame_after walk.tokenizer bytes tame)
    (markup_stands walk.url walk.tokenizer bytes here.url tame here.read here.opened stands) next))
joined_from number walk (GivenSlot ∷ first) second one two told tame stands next =
    let here = at_slot number walk first one told in
    let slot : PlacedSlot = before (next_markup first) here.found in
    let suited = (before_suits (next_markup first) walk.markup walk.url (standing walk.tokenizer) here.found here.placed).suited in
    let goes : after_slot slot.place slot.kind walk.tokenizer ≡ past_slot slot.place slot.kind walk.tokenizer = rw suited refl in
    let behind = told_behind_slot walk slot goes (tame_behind (next_markup first) walk.markup walk.url walk.tokenizer here.found tame here.placed)
    (slot_stands (next_markup first) walk.markup walk.url walk.tokenizer (standing walk.tokenizer) here.found refl here.placed stands) in
    let ends : first ≡ [] → (before [] here.found).url ≡ Outside = λ none. last_told (number + 1) walk here.found first here.rest none here.told behind.0 behind.1 in
    rw here.whole
    (slot_before number walk (first ++ second) here.found slot (here.rest ++ two) here.placed (same_next first second here.found ends)
    (joined_from (number + 1) (behind_slot walk slot) first second here.rest two here.told behind.0 behind.1 next))

pub joined_told : (first second : List Given) (one two : List Chunk) → template_of first ≡ Ok one → template_of second ≡ Ok two →
    template_of (first ++ second) ≡ Ok (one ++ two)
joined_told first second one two told next = joined_from 0 at_beginning first second one two told data_state_is_tame tt next

-- ---- by the test

is_told_of : (told : Told) → is_told told ≡ true → told ≡ Ok (told_chunks told)
is_told_of told is = grind (arith, nat_tests)

pub placed_told : (parts : List Given) → is_template parts ≡ true → template_of parts ≡ Ok (placed parts)
placed_told parts is = is_told_of (template_of parts) is

pub is_template_of : (parts : List Given) (chunks : List Chunk) → template_of parts ≡ Ok chunks → is_template parts ≡ true
is_template_of parts chunks told = ap is_told told

pub placed_of : (parts : List Given) (chunks : List Chunk) → template_of parts ≡ Ok chunks → placed parts ≡ chunks
placed_of parts chunks told = ap told_chunks told
