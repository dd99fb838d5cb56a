-- A page of a template's parts: how it is read, and that of any other texts beside it.
use Rattle.std.proofs.Common.{ℕ, ◌≡◌, true, List, arith}
use Rattle.std.proofs.lemmas.Bool.Decides.{nat_tests}
use Rattle.html_tokenizer.specs.Tokenizer.States.{data_state}
use Rattle.html_tokenizer.specs.Tokenizer.Tokenization.{actions_of}
use Rattle.html_tokenizer.specs.Tokens.{skeleton, tokens}
use Rattle.html_template.specs.FilledUrls.{FillUrls, HasUrls, filled_urls, template_urls, url_texts}
use Rattle.html_template.specs.PageUrls.{AllAlike, urls_of, first_texts}
use Rattle.html_template.specs.Structure.{IsPageOf, IsReadAs, IsWhole, structure}
use Rattle.html_template.specs.TemplateFaults.{is_template, placed}
use Rattle.html_template.specs.Templates.{Given, state_after_all}
use Rattle.html_template.proofs.Fragments.{page_whole}
use Rattle.html_template.proofs.JoinedParts.{placed_told}
use Rattle.html_template.proofs.PageUrls.Law.{has_urls, leads_as_any}
use Rattle.html_template.proofs.Pieces.{sound_told}
use Rattle.html_template.proofs.Structure.{is_read_as, structure_of_page}
use Rattle.html_template.proofs.TokenLaw.{skeleton_of_pages}

sound : (parts : List Given) → is_template parts ≡ true → state_after_all data_state (placed parts) ≡ data_state
sound parts is = sound_told parts (placed parts) (placed_told parts is)

pub page_reads : (parts : List Given) (texts : List (List ℕ)) (bytes : List ℕ) → IsPageOf parts texts bytes → IsReadAs (placed parts) texts bytes
page_reads parts texts bytes is = grind (arith, nat_tests, is_read_as, sound)

-- behind it the tokenizer is where a page begins
pub page_passes : (parts : List Given) (texts : List (List ℕ)) (bytes : List ℕ) → IsPageOf parts texts bytes → IsWhole bytes
page_passes parts texts bytes is = page_whole (placed parts) texts bytes (page_reads parts texts bytes is)

-- ---- two pages

pub same_structure : (parts : List Given) (texts others : List (List ℕ)) (first second : List ℕ) → IsPageOf parts texts first → IsPageOf parts others second →
    structure (actions_of data_state first) ≡ structure (actions_of data_state second)
same_structure parts texts others first second one two = grind (arith, nat_tests, sound, structure_of_page)

pub same_tokens : (parts : List Given) (texts others : List (List ℕ)) (first second : List ℕ) → IsPageOf parts texts first → IsPageOf parts others second →
    skeleton (tokens (actions_of data_state first)) ≡ skeleton (tokens (actions_of data_state second))
same_tokens parts texts others first second one two = grind (arith, nat_tests, skeleton_of_pages, sound)

-- ---- its URLs

pub parts_have_urls : (parts : List Given) → is_template parts ≡ true → HasUrls (placed parts)
parts_have_urls parts is = has_urls parts (placed parts) (placed_told parts is)

pub page_urls : (parts : List Given) (texts : List (List ℕ)) (bytes : List ℕ) → IsPageOf parts texts bytes →
    urls_of bytes ≡ filled_urls (template_urls parts) (url_texts (placed parts) texts)
page_urls parts texts bytes is = grind (arith, nat_tests, parts_have_urls)

pub urls_fill : (parts : List Given) (texts : List (List ℕ)) (bytes : List ℕ) → IsPageOf parts texts bytes → FillUrls (template_urls parts) (url_texts (placed parts) texts)
urls_fill parts texts bytes is = (parts_have_urls parts is.template texts is.full is.utf8).full

-- and those of two pages
pub same_urls : (parts : List Given) (texts others : List (List ℕ)) (first second : List ℕ) → IsPageOf parts texts first → IsPageOf parts others second →
    AllAlike (first_texts (placed parts) texts) (first_texts (placed parts) others) (urls_of first) (urls_of second)
same_urls parts texts others first second one two = grind (arith, nat_tests, parts_have_urls, leads_as_any)
