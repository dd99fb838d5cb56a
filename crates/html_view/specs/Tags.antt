-- Tags: a sign and a name between `{{` and `}}`, with white space around them.
use Rattle.std.specs.Prelude.{◌≡◌, ◌≢◌, ⊤, ℕ, Bool, true, false, ◌||◌, List, [], ◌∷◌, ◌++◌, ◌==◌, codes}
use Rattle.std.specs.Char.{is_ascii_alphanumeric, is_not_whitespace, is_whitespace}
use Rattle.std.specs.List.{AllByRecursion, list_all}
use Rattle.std.specs.Str.{NoCharPasses}
use Rattle.html_template_source.specs.Sources.{closing, quoted_opening}
use Rattle.html_view.specs.Names.{dot, words_behind}
use Rattle.html_view.specs.declared.source.tag.Sign.{Sign}
use Rattle.html_view.specs.declared.source.tag.Sign.TheVariants.{Block, Braced, Comment, Each, End, Fragment, If, Layout, Partial, Quoted, Slot, Unless}

-- ---- signs

-- with `{{"{{"}}` a `{{` of the markup is written
abbrev pub sign_text : Sign → List ℕ
sign_text Slot = []
sign_text Fragment = codes "&"
sign_text Braced = codes "{"
sign_text Quoted = quoted_opening
sign_text Comment = codes "!"
sign_text Each = codes "#"
sign_text If = codes "?"
sign_text Unless = codes "^"
sign_text End = codes "/"
sign_text Partial = codes ">"
sign_text Layout = codes "<"
sign_text Block = codes "$"

-- what closes a tag
abbrev pub closing_of : Sign → List ℕ
closing_of Braced = codes "}}}"
closing_of other = closing

-- a tag of this sign leaves no line behind, where it is all of its line
abbrev pub may_be_lone : Sign → Bool
may_be_lone Slot = false
may_be_lone Fragment = false
may_be_lone Braced = false
may_be_lone Quoted = false
may_be_lone other = true

-- ---- names

abbrev pub is_letter : ℕ → Bool
is_letter b = is_ascii_alphanumeric b || b == 95 || b == 45

pub record IsWord (word : List ℕ) : Type 0 where
  pub some : word ≢ []
  pub letters : list_all is_letter word ≡ true

-- words with dots between them
abbrev pub AreWords : List ℕ → Type 0
AreWords name = AllByRecursion IsWord (words_behind [] name)

-- words, which a dot may stand before, or the dot alone
pub data IsName : List ℕ → Type 0 where
  innermost : IsName (dot ∷ [])
  words : {name : List ℕ} → AreWords name → IsName name
  behind_dot : {name : List ℕ} → AreWords name → IsName (dot ∷ name)

-- what no name of a partial has: white space and braces
abbrev pub is_apart : ℕ → Bool
is_apart c = is_whitespace c || c == 123 || c == 125

pub record IsPartialName (name : List ℕ) : Type 0 where
  pub some : name ≢ []
  pub letters : NoCharPasses is_apart name

-- the end of a layout has the name of a partial
abbrev pub IsNameOf : Sign → List ℕ → Type 0
IsNameOf Quoted name = name ≡ []
IsNameOf Comment name = ⊤
IsNameOf End name = IsPartialName name
IsNameOf Partial name = IsPartialName name
IsNameOf Layout name = IsPartialName name
IsNameOf other name = IsName name

-- ---- tags

abbrev pub IsSpace : List ℕ → Type 0
IsSpace bytes = NoCharPasses is_not_whitespace bytes

-- between `{{` and `}}` stand the sign and the name
pub record IsTag (sign : Sign) (name inside : List ℕ) : Type 0 where
  pub before : List ℕ
  pub between : List ℕ
  pub behind : List ℕ
  pub whole : inside ≡ before ++ (sign_text sign ++ (between ++ (name ++ behind)))
  pub before_is : IsSpace before
  pub between_is : IsSpace between
  pub behind_is : IsSpace behind
  pub named : IsNameOf sign name
