-- The URLs of a template: part by part, from the last one on.
use Rattle.std.proofs.Common.{ℕ, ◌≡◌, ◌+◌, true, List, [], ◌∷◌, map, IsUtf8, Ok, refl, sym, subst, arith}
use Rattle.std.proofs.lemmas.Bool.Decides.{nat_tests}
use Rattle.std.specs.List.{AllByRecursion}
use Rattle.html_template.specs.declared.open_url.OpenUrl.{OpenUrl}
use Rattle.html_template.specs.declared.open_url.PlacedSlot.{PlacedSlot}
use Rattle.html_template.specs.FilledUrls.{AreFilled, HasUrls, HasUrlsOf}
use Rattle.html_template.specs.OpenUrls.{before}
use Rattle.html_template.specs.PageUrls.{LeadsAsAny}
use Rattle.html_template.specs.Slots.{past_slot}
use Rattle.html_template.specs.TemplateFaults.{Walk, at_beginning, behind_markup, behind_slot, next_markup, pieces_from, template_of}
use Rattle.html_template.specs.Templates.{Chunk, Fill, Given, GivenMarkup, GivenSlot, after_slot, part_of}
use Rattle.html_tokenizer.specs.Standing.{may_end, standing}
use Rattle.html_tokenizer.specs.Tokenizer.States.{Tokenizer, data_state}
use Rattle.html_tokenizer.proofs.UrlValues.Slots.Tame.{IsTame, data_state_is_tame, tame_after}
use Rattle.html_template.proofs.Pieces.{at_end, at_markup, at_slot}
use Rattle.html_template.proofs.PageUrls.Filled.{HasLater}
use Rattle.html_template.proofs.PageUrls.FilledAlike.{filled_alike}
use Rattle.html_template.proofs.PageUrls.MarkupSteps.{markup_goes}
use Rattle.html_template.proofs.PageUrls.Opening.{Goes, no_url_open}
use Rattle.html_template.proofs.PageUrls.SlotSteps.{slot_goes, tame_behind}
use Rattle.html_template.proofs.Walks.{before_suits}

end_goes : (url : OpenUrl) (t : Tokenizer) (markup : List ℕ) → IsTame t → may_end t ≡ true → Goes url t markup []
end_goes url t markup tame may = grind (arith, nat_tests)

all_goes : (number : ℕ) (walk : Walk) (parts : List Given) (chunks : List Chunk) → pieces_from number walk parts ≡ Ok chunks → IsTame walk.tokenizer →
    Goes walk.url walk.tokenizer walk.markup chunks
all_goes number walk [] chunks told tame =
    let end = at_end number walk chunks told in
    subst (Goes walk.url walk.tokenizer walk.markup) (sym end.none) (end_goes walk.url walk.tokenizer walk.markup tame end.may)
all_goes number walk (GivenMarkup bytes ∷ parts) chunks told tame =
    let here = at_markup number walk bytes parts chunks told in
    subst (Goes walk.url walk.tokenizer walk.markup) (sym here.whole)
    (markup_goes walk.url walk.tokenizer walk.markup bytes here.url here.rest tame here.read here.opened
    (all_goes (number + 1) (behind_markup walk bytes here.url) parts here.rest here.told (tame_after walk.tokenizer bytes tame)))
all_goes number walk (GivenSlot ∷ parts) chunks told tame =
    let here = at_slot number walk parts chunks told in
    let slot : PlacedSlot = before (next_markup parts) here.found in
    let suited = (before_suits (next_markup parts) walk.markup walk.url (standing walk.tokenizer) here.found here.placed).suited in
    let next : Tokenizer = past_slot slot.place slot.kind walk.tokenizer in
    let goes_to : after_slot slot.place slot.kind walk.tokenizer ≡ next = rw suited refl in
    let next_tame = tame_behind (next_markup parts) walk.markup walk.url walk.tokenizer here.found tame here.placed in
    subst (Goes walk.url walk.tokenizer walk.markup) (sym here.whole)
    (slot_goes (next_markup parts) walk.markup walk.url walk.tokenizer here.found here.rest tame here.placed
    (subst (λ (t : Tokenizer). Goes slot.url t [] here.rest) goes_to
    (all_goes (number + 1) (behind_slot walk slot) parts here.rest here.told (subst IsTame (sym goes_to) next_tame))))

-- ---- the URLs of a template

all_later : (parts : List Given) (chunks : List Chunk) → template_of parts ≡ Ok chunks → HasLater data_state [] chunks
all_later parts chunks told = all_goes 0 at_beginning parts chunks told data_state_is_tame [] (no_url_open data_state [] refl)

pub has_urls : (parts : List Given) (chunks : List Chunk) → template_of parts ≡ Ok chunks → HasUrls chunks
has_urls parts chunks told = λ texts full utf8.
    let later = all_later parts chunks told in
    let found = later.filled texts full utf8 in
    subst (λ urls. AreFilled urls chunks texts) (sym later.told) (record { same = found.same; full = found.full; first = found.whole_same })

pub has_urls_of : (chunks : List Chunk) (texts : List (List ℕ)) → template_of (map part_of chunks) ≡ Ok chunks → Fill chunks texts →
    AllByRecursion IsUtf8 texts → HasUrlsOf chunks texts
has_urls_of chunks texts told full utf8 =
    let any = has_urls (map part_of chunks) chunks told in
    record { here = any texts full utf8; any = any }

-- so they are alike with all texts
pub leads_as_any : (chunks : List Chunk) (texts : List (List ℕ)) → HasUrlsOf chunks texts → LeadsAsAny chunks texts
leads_as_any chunks texts has = grind (arith, nat_tests, filled_alike)
