-- The page of a layout, in whose slot `{{{main}}}` the page of its content stands.
use Rattle.std.specs.Prelude.{◌≡◌, ℕ, List, Ok, codes}
use Rattle.html_template.specs.Words.{IsPageOf, IsWhole}
use Rattle.html_view.specs.Words.{Datum, Fragment, Record, Unrolled, Unrolling, bare, field, parts_of, rendered}

-- the data of a layout with this in its slot
abbrev pub with_main : (markup : List ℕ) → IsWhole markup → Datum
with_main markup whole = Record (field (codes "main") (Fragment markup whole) bare)

-- a page of the unrolled layout around this markup
pub record IsAround (layout : Datum → Unrolled) (markup page : List ℕ) : Type 0 where
  pub whole : IsWhole markup
  pub found : Unrolling
  pub told : layout (with_main markup whole) ≡ Ok found
  pub is_page : IsPageOf (parts_of found) found.texts page

-- and this is the page of the content
pub record IsNested (layout : Datum → Unrolled) (content : Unrolled) (page : List ℕ) : Type 0 where
  pub inside : Unrolling
  pub told : content ≡ Ok inside
  pub around : IsAround layout (rendered inside) page
