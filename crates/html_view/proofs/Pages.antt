-- The tokens and the URLs of pages.
use Rattle.std.proofs.Common.{◌≡◌, List, [], ◌∷◌, map, IsUtf8, Ok, refl, sym, ap, ◌∙◌, subst}
use Rattle.std.specs.List.{AllByRecursion}
use Rattle.html_template.specs.FilledUrls.{HasUrls}
use Rattle.html_template.specs.PageUrls.{AllAlike, first_texts, urls_of}
use Rattle.html_template.specs.TemplateFaults.{template_of}
use Rattle.html_template.specs.Templates.{Chunk, Fill, page, part_of, state_after_all}
use Rattle.html_tokenizer.specs.Tokenizer.States.{data_state}
use Rattle.html_tokenizer.specs.Tokenizer.Tokenization.{actions_of}
use Rattle.html_tokenizer.specs.Tokens.{skeleton, tokens}
use Rattle.html_template.proofs.Pieces.{sound_told}
use Rattle.html_template.proofs.TokenLaw.{skeleton_of_pages}
use Rattle.html_template.proofs.PageUrls.Law as urls
use Rattle.html_view.specs.Data.{Datum}
use Rattle.html_view.specs.Forms.{SameForm}
use Rattle.html_view.specs.Nodes.{Nodes, Placed}
use Rattle.html_view.specs.Rendered.{Unrolling, rendered, unrolled}
use Rattle.html_view.specs.Unrolled.{AreTemplates, Unrolls, joined}
use Rattle.html_view.proofs.Forms.{same_pieces}
use Rattle.html_view.proofs.Sound.{joined_fill, joined_page}
use Rattle.html_view.proofs.Unrolling.{is_unrolling}

pub has_urls : (nodes : Nodes Placed) (pieces : List Chunk) → AreTemplates nodes → Unrolls nodes pieces → HasUrls (joined pieces)
has_urls nodes pieces sound unrolls = urls.has_urls (map part_of (joined pieces)) (joined pieces) (sound pieces unrolls)

-- two pages of one form are pages of one template
record OneTemplate (first second : Unrolling) : Type 0 where
  told : List Chunk
  one : page told first.texts ≡ rendered first
  two : page told second.texts ≡ rendered second
  full : Fill told first.texts
  others_full : Fill told second.texts
  is : told ≡ joined first.pieces

one_template : (nodes : Nodes Placed) (value other : Datum) (first second : Unrolling) → SameForm value other →
    unrolled nodes (value ∷ []) ≡ Ok first → unrolled nodes (other ∷ []) ≡ Ok second → OneTemplate first second
one_template nodes value other first second same told_first told_second =
    let here = is_unrolling nodes (value ∷ []) first told_first in
    let there = is_unrolling nodes (other ∷ []) second told_second in
    let alike : first.pieces ≡ second.pieces = same_pieces nodes (value ∷ []) (other ∷ []) (same, tt) first second told_first told_second in
    record {
      told = joined first.pieces;
      one = joined_page first.pieces first.texts;
      two = ap (λ p. page (joined p) second.texts) alike ∙ joined_page second.pieces second.texts;
      full = joined_fill first.pieces first.texts here.full;
      others_full = subst (λ p. Fill (joined p) second.texts) (sym alike) (joined_fill second.pieces second.texts there.full);
      is = refl;
    }

template_is : (nodes : Nodes Placed) (value : Datum) (first : Unrolling) → AreTemplates nodes → unrolled nodes (value ∷ []) ≡ Ok first →
    template_of (map part_of (joined first.pieces)) ≡ Ok (joined first.pieces)
template_is nodes value first sound told_first = sound first.pieces (is_unrolling nodes (value ∷ []) first told_first).unrolls

pub same_tokens : (nodes : Nodes Placed) (value other : Datum) (first second : Unrolling) → AreTemplates nodes → SameForm value other →
    unrolled nodes (value ∷ []) ≡ Ok first → unrolled nodes (other ∷ []) ≡ Ok second →
    AllByRecursion IsUtf8 first.texts → AllByRecursion IsUtf8 second.texts →
    skeleton (tokens (actions_of data_state (rendered first))) ≡ skeleton (tokens (actions_of data_state (rendered second)))
same_tokens nodes value other first second sound same told_first told_second utf8 others_utf8 =
    let pages = one_template nodes value other first second same told_first told_second in
    let state = sound_told (map part_of (joined first.pieces)) (joined first.pieces) (template_is nodes value first sound told_first) in
    let alike = skeleton_of_pages pages.told first.texts second.texts (ap (state_after_all data_state) pages.is ∙ state) pages.full utf8 pages.others_full others_utf8 in
    sym (ap (λ p. skeleton (tokens (actions_of data_state p))) pages.one) ∙ alike ∙ ap (λ p. skeleton (tokens (actions_of data_state p))) pages.two

pub same_urls : (nodes : Nodes Placed) (value other : Datum) (first second : Unrolling) → AreTemplates nodes → SameForm value other →
    unrolled nodes (value ∷ []) ≡ Ok first → unrolled nodes (other ∷ []) ≡ Ok second →
    AllByRecursion IsUtf8 first.texts → AllByRecursion IsUtf8 second.texts →
    AllAlike (first_texts (joined first.pieces) first.texts) (first_texts (joined first.pieces) second.texts) (urls_of (rendered first)) (urls_of (rendered second))
same_urls nodes value other first second sound same told_first told_second utf8 others_utf8 =
    let pages = one_template nodes value other first second same told_first told_second in
    let whole = template_is nodes value first sound told_first in
    let full = subst (λ p. Fill p first.texts) pages.is pages.full in
    let others_full = subst (λ p. Fill p second.texts) pages.is pages.others_full in
    let one = sym (ap (λ p. page p first.texts) pages.is) ∙ pages.one in
    let two = sym (ap (λ p. page p second.texts) pages.is) ∙ pages.two in
    let has = urls.has_urls_of (joined first.pieces) first.texts whole full utf8 in
    let alike = urls.leads_as_any (joined first.pieces) first.texts has second.texts others_full others_utf8 in
    subst (λ p. AllAlike (first_texts (joined first.pieces) first.texts) (first_texts (joined first.pieces) second.texts) (urls_of p) (urls_of (rendered second))) one
    (subst (λ p. AllAlike (first_texts (joined first.pieces) first.texts) (first_texts (joined first.pieces) second.texts) (urls_of (page (joined first.pieces) first.texts)) (urls_of p)) two alike)
