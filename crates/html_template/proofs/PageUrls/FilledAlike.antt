-- The URLs of a template, filled by two lists of texts, lead alike.
use Rattle.std.proofs.Common.{ℕ, ◌≡◌, true, List, [], ◌∷◌, ◌++◌, drop, take, inl, inr, refl, sym, subst, append-nil, arith}
use Rattle.std.proofs.lemmas.Bool.Decides.{nat_tests}
use Rattle.html_urls.specs.Bases.{FillBehind, is_base}
use Rattle.html_urls.specs.Slots.{FillUrl, Given, Markup, url_of}
use Rattle.html_urls.specs.declared.base.BehindBase.{BehindBase}
use Rattle.html_urls.proofs.Bases.Filling.{fills}
use Rattle.html_urls.proofs.Bases.GoesAs.{behind_goes}
use Rattle.html_urls.proofs.Bases.Headings.{base_head}
use Rattle.html_urls.proofs.Bases.OwnBases.{own_is_base}
use Rattle.html_urls.proofs.Shapes.SameCounts.{same_head, same_segments, same_strings}
use Rattle.html_template.specs.declared.parts.SlotKind.{SlotKind}
use Rattle.html_template.specs.FilledUrls.{Based, FillBase, FillUrls, Fixed, Parts, TemplateUrl, Whole, begun_texts, filled_urls, slots_in}
use Rattle.html_template.specs.PageUrls.{AllAlike, BeginsWith, FirstText, IsUrlOf, LeadAlike}
use Rattle.html_template.specs.Slots.{MayBegin}

leads_itself : (url : List ℕ) → LeadAlike url url
leads_itself url = record { head = λ base web. refl; segments = λ base web. refl; strings = λ base web. refl }

parts_alike : (parts : List Given) (texts others : List (List ℕ)) → FillUrl parts texts → FillUrl parts others →
    LeadAlike (url_of parts texts) (url_of parts others)
parts_alike parts texts others full others_full = grind (arith, nat_tests, same_head, same_segments, same_strings)

-- two that are whole, and two that begin with bases: they lead alike where these texts are the same
abbrev AreOfTexts : SlotKind → List ℕ → List ℕ → List ℕ → List ℕ → Type 0 → Type 0
AreOfTexts kind text other url another Rest =
    (kind ≡ kind) × IsUrlOf (kind, text) url × IsUrlOf (kind, other) another × (text ≡ other → LeadAlike url another) × Rest

begins_itself : (text : List ℕ) → BeginsWith text text
begins_itself text = record { rest = []; is = sym (append-nil text); head = λ page web. refl }

whole_alike : (kind : SlotKind) (text other : List ℕ) {Rest : Type 0} → MayBegin kind text → MayBegin kind other → Rest → AreOfTexts kind text other text other Rest
whole_alike kind text other may may_other rest = grind (arith, nat_tests, leads_itself, begins_itself)

begins_with : (behind : BehindBase) (text : List ℕ) (parts : List Given) (texts : List (List ℕ)) → is_base behind text ≡ true → FillBehind behind parts texts →
    BeginsWith text (text ++ url_of parts texts)
begins_with behind text parts texts is full = grind (arith, nat_tests, base_head, behind_goes, fills)

same_base : (behind : BehindBase) (text other : List ℕ) (parts : List Given) (texts others : List (List ℕ)) → is_base behind text ≡ true →
    FillBehind behind parts texts → FillBehind behind parts others → text ≡ other → LeadAlike (text ++ url_of parts texts) (other ++ url_of parts others)
same_base behind text other parts texts others is full others_full same =
    subst (λ x. LeadAlike (text ++ url_of parts texts) (x ++ url_of parts others)) same
    (parts_alike (Markup text ∷ parts) texts others (fills behind text parts texts is full) (fills behind text parts others is others_full))

based_alike : (kind : SlotKind) (parts : List Given) (text other : List ℕ) (texts others : List (List ℕ)) {Rest : Type 0} → MayBegin kind text → MayBegin kind other →
    FillBase kind parts texts → FillBase kind parts others → Rest → AreOfTexts kind text other (text ++ url_of parts texts) (other ++ url_of parts others) Rest
based_alike kind parts text other texts others may may_other full others_full rest = grind (arith, nat_tests, begins_with, same_base, own_is_base)

alike_first : (wholes more : List FirstText) (first second : List ℕ) (urls others : List (List ℕ)) → LeadAlike first second →
    AllAlike wholes more urls others → AllAlike wholes more (first ∷ urls) (second ∷ others)
alike_first [] [] first second urls others here there = (here, there)
alike_first [] (other ∷ more) first second urls others here there = absurd there
alike_first (whole ∷ wholes) [] first second urls others here there = absurd there
alike_first (whole ∷ wholes) (other ∷ more) first second urls others here there = inl (here, there)

pub filled_alike : (urls : List TemplateUrl) (texts others : List (List ℕ)) → FillUrls urls texts → FillUrls urls others →
    AllAlike (begun_texts urls texts) (begun_texts urls others) (filled_urls urls texts) (filled_urls urls others)
filled_alike [] [] [] full others_full = tt
filled_alike [] (text ∷ texts) others full others_full = absurd full
filled_alike [] [] (other ∷ others) full others_full = absurd others_full
filled_alike (Fixed url ∷ urls) texts others full others_full =
    alike_first (begun_texts urls texts) (begun_texts urls others) url url (filled_urls urls texts) (filled_urls urls others)
    (leads_itself url) (filled_alike urls texts others full others_full)
filled_alike (Parts parts ∷ urls) texts others full others_full =
    let count : ℕ = slots_in parts in
    let rest : List (List ℕ) = drop count texts in
    let others_rest : List (List ℕ) = drop count others in
    alike_first (begun_texts urls rest) (begun_texts urls others_rest) (url_of parts (take count texts)) (url_of parts (take count others))
    (filled_urls urls rest) (filled_urls urls others_rest)
    (parts_alike parts (take count texts) (take count others) full.0 others_full.0)
    (filled_alike urls rest others_rest full.1 others_full.1)
filled_alike (Whole kind ∷ urls) [] others full others_full = absurd full
filled_alike (Whole kind ∷ urls) (text ∷ texts) [] full others_full = absurd others_full
filled_alike (Whole kind ∷ urls) (text ∷ texts) (other ∷ others) full others_full =
    inr (whole_alike kind text other full.0 others_full.0 (filled_alike urls texts others full.1 others_full.1))
filled_alike (Based kind parts ∷ urls) [] others full others_full = absurd full
filled_alike (Based kind parts ∷ urls) (text ∷ texts) [] full others_full = absurd others_full
filled_alike (Based kind parts ∷ urls) (text ∷ texts) (other ∷ others) full others_full =
    let count : ℕ = slots_in parts in
    let rest = filled_alike urls (drop count texts) (drop count others) full.2 others_full.2 in
    inr (based_alike kind parts text other (take count texts) (take count others) full.0 others_full.0 full.1 others_full.1 rest)
