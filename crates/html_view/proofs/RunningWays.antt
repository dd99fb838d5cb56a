-- A running way goes past a slot as is told, and ends where a page may end.
use Rattle.std.proofs.Common.{ℕ, ◌≡◌, true, false, List, [], Result, Ok, Err, refl, sym, ap, ◌∙◌}
use Rattle.std.specs.Result.{is_ok}
use Rattle.html_template.specs.OpenUrls.{before, url_markup}
use Rattle.html_template.specs.TemplateFaults.{slot_at}
use Rattle.html_template.specs.declared.faults.PartFault.{PartFault}
use Rattle.html_template.specs.declared.open_url.OpenUrl.{OpenUrl}
use Rattle.html_template.specs.declared.open_url.PlacedSlot.{PlacedSlot}
use Rattle.html_tokenizer.specs.declared.reader.Standing.{Standing}
use Rattle.html_tokenizer.specs.Standing.{AfterStanding, is_refused, may_end, standing}
use Rattle.html_tokenizer.specs.Tokenizer.States.{Tokenizer}
use Rattle.html_template.proofs.Walks.{same_after_slot}
use Rattle.html_template.specs.Templates.{after_slot}
use Rattle.html_view.specs.Following.{MovedPast}
use Rattle.html_view.specs.Ways.{EndsWithin, MayEnd, Way}

pub slot_taken : (next : List ℕ) (way : Way) (left : List ℕ) (opened : OpenUrl) (s : Standing) (found slot : PlacedSlot) (new : Tokenizer) → left ≡ [] →
    is_refused way.tokenizer.state ≡ false → url_markup way.url way.markup ≡ Ok opened → s ≡ standing way.tokenizer →
    slot_at way.markup opened s ≡ Ok found → AfterStanding s way.tokenizer new → slot ≡ before next found →
    MovedPast next way (record { tokenizer = new; markup = left; url = slot.url }) slot
slot_taken next way left opened s found slot new none read told same placed after is =
    let there : slot_at way.markup opened (standing way.tokenizer) ≡ Ok found = sym (ap (slot_at way.markup opened) same) ∙ placed in
    let goes = same_after_slot next way.markup opened s found way.tokenizer new placed same after in
    record {
      found = found;
      stands = rw (read, told, there) refl;
      is = is;
      past = ap (λ m. record { tokenizer = new; markup = m; url = slot.url }) none
          ∙ ap (λ u. record { tokenizer = u; markup = []; url = slot.url }) (goes ∙ ap (λ (k : PlacedSlot). after_slot k.place k.kind way.tokenizer) (sym is));
    }

pub end_told : (way : Way) (found : Result OpenUrl PartFault) → found ≡ url_markup way.url way.markup → is_refused way.tokenizer.state ≡ false →
    may_end way.tokenizer ≡ true → is_ok found ≡ true → MayEnd way
end_told way (Ok url) told read may ok = record { may = may; read = read; url = url; told = sym told }
end_told way (Err why) told read may ok = absurd (cc)

pub unfinished_told : (way : Way) (found : Result OpenUrl PartFault) → found ≡ url_markup way.url way.markup → is_refused way.tokenizer.state ≡ false →
    may_end way.tokenizer ≡ false → is_ok found ≡ true → EndsWithin way
unfinished_told way (Ok url) told read may ok = record { may_not = may; read = read; url = url; told = sym told }
unfinished_told way (Err why) told read may ok = absurd (cc)
