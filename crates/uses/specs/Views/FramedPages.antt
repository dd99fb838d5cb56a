-- A page of two views, the frame and its content.
use Rattle.std.specs.Prelude.{◌≡◌, ℕ, List, ◌++◌, Ok}
use Rattle.html_template.specs.Words.{IsPageOf}
use Rattle.html_view.specs.Words.{Unrolled, Unrolling, parts_of}

-- the page is one of the joined parts of both unrollings, filled by the texts of the one and of the other
pub record IsFramed (frame content : Unrolled) (page : List ℕ) : Type 0 where
  pub joined : (around inside : Unrolling) → frame ≡ Ok around → content ≡ Ok inside →
      IsPageOf (parts_of around ++ parts_of inside) (around.texts ++ inside.texts) page
