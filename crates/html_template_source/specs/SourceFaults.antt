-- What keeps bytes from being the source of a template.
use Rattle.std.specs.Prelude.{◌≡◌, ◌≢◌, ⊤, ℕ, ◌+◌, false, List, ◌++◌, Result, Ok, Err, length}
use Rattle.html_template.specs.TemplateFaults.{template_of}
use Rattle.html_template.specs.Templates.{Given}
use Rattle.html_template_source.specs.declared.faults.SourceFault.{SourceFault}
use Rattle.html_template_source.specs.declared.faults.SourceFault.TheVariants.{Unclosed, BadName, NoTemplate, Memory}
use Rattle.html_template_source.specs.Sources.{IsSourceOf, Lacks, closing, is_name, opening, quoted_opening}

-- the bytes before this place are a source and markup, and `{{` stands there, before the rest
pub record OpensAt (source : List ℕ) (place : ℕ) (rest : List ℕ) : Type 0 where
  pub parts : List Given
  pub names : List (List ℕ)
  pub front : List ℕ
  pub markup : List ℕ
  pub before : IsSourceOf parts names front
  pub plain : Lacks opening markup
  pub whole : source ≡ front ++ (markup ++ (opening ++ rest))
  pub place_is : place ≡ length front + length markup

-- no `}}` follows the `{{` at this place
pub record IsUnclosed (source : List ℕ) (place : ℕ) : Type 0 where
  pub rest : List ℕ
  pub opens : OpensAt source place rest
  pub unended : Lacks closing rest

-- what stands between the `{{` at this place and the first `}}` after it is no name, and no `"{{"`
pub record HasBadName (source : List ℕ) (place : ℕ) : Type 0 where
  pub name : List ℕ
  pub rest : List ℕ
  pub opens : OpensAt source place (name ++ (closing ++ rest))
  pub first : Lacks closing name
  pub bad : is_name name ≡ false
  pub other : name ≢ quoted_opening

-- each fault says what is wrong; memory may run out before
abbrev pub AnswersSource : {T : Type 0} → List ℕ → Result T SourceFault → Type 0
AnswersSource source (Ok done) = ⊤
AnswersSource source (Err (Unclosed place)) = IsUnclosed source place
AnswersSource source (Err (BadName place)) = HasBadName source place
AnswersSource source (Err (NoTemplate fault)) =
    (parts : List Given) × (names : List (List ℕ)) × IsSourceOf parts names source × (template_of parts ≡ Err fault)
AnswersSource source (Err Memory) = ⊤
