-- The pages of data, appended and written.
use Rattle.std.proofs.Common.{ℕ, ◌≡◌, List, ◌++◌, map, IsUtf8, Option, Result, Ok, Err, sym, ap, ◌∙◌, subst}
use Rattle.std.specs.Io.KnownBytes.{Appends}
use Rattle.std.specs.List.{AllByRecursion}
use Rattle.std.specs.Prelude.{OnOk}
use Rattle.html_template.specs.FilledUrls.{HasUrlsOf}
use Rattle.html_template.specs.TemplateFaults.{template_of}
use Rattle.html_template.specs.Templates.{Fill, part_of}
use Rattle.html_template.proofs.Joined.{page_after, written_after}
use Rattle.html_template.proofs.PageUrls.Law.{has_urls_of}
use Rattle.html_view.specs.Appending.{PutsBehind}
use Rattle.html_view.specs.Data.{Stack}
use Rattle.html_view.specs.Nodes.{Nodes, Placed}
use Rattle.html_view.specs.Rendered.{Unrolled, Unrolling, rendered, unrolled}
use Rattle.html_view.specs.Unrolled.{AreTemplates, joined}
use Rattle.html_view.specs.Views.{AddsPage, Renders, Writes, WritesPage}
use Rattle.html_view.specs.declared.faults.DataFault.{DataFault}
use Rattle.html_view.specs.declared.faults.DataFault.TheVariants.{Value, Memory}
use Rattle.html_template.specs.declared.faults.WriteFault.{WriteFault}
use Rattle.html_view.proofs.Sound.{joined_fill, joined_page}
use Rattle.html_view.proofs.Unrolling.{is_unrolling, rendered_page}

same_found : (told : Unrolled) (made found : Unrolling) → told ≡ Ok made → told ≡ Ok found → made ≡ found
same_found told made found is again = cc

-- what data makes fills the unrolling's template
record FillsTemplate (nodes : Nodes Placed) (found : Unrolling) : Type 0 where
  template : template_of (map part_of (joined found.pieces)) ≡ Ok (joined found.pieces)
  full : Fill (joined found.pieces) found.texts
  utf8 : AllByRecursion IsUtf8 found.texts

fills : (nodes : Nodes Placed) (stack : Stack) (made found : Unrolling) → AreTemplates nodes → unrolled nodes stack ≡ Ok made →
    AllByRecursion IsUtf8 made.texts → unrolled nodes stack ≡ Ok found → FillsTemplate nodes found
fills nodes stack made found sound is utf8 told =
    let here = is_unrolling nodes stack found told in record {
      template = sound found.pieces here.unrolls;
      full = joined_fill found.pieces found.texts here.full;
      utf8 = subst (λ f. AllByRecursion IsUtf8 f.texts) (same_found (unrolled nodes stack) made found is told) utf8;
    }

has_urls : (nodes : Nodes Placed) (found : Unrolling) → FillsTemplate nodes found → HasUrlsOf (joined found.pieces) found.texts
has_urls nodes found here = has_urls_of (joined found.pieces) found.texts here.template here.full here.utf8

pub adds_page : (nodes : Nodes Placed) (stack : Stack) (made : Unrolling) (old new : List ℕ) → AreTemplates nodes → unrolled nodes stack ≡ Ok made →
    AllByRecursion IsUtf8 made.texts → new ≡ old ++ rendered made → AddsPage (unrolled nodes stack) old new
adds_page nodes stack made old new sound is utf8 added = record {
  page = λ found told. rendered_page nodes stack found sound told (fills nodes stack made found sound is utf8 told).utf8;
  joins = λ found told.
      let here = fills nodes stack made found sound is utf8 told in
      page_after (joined found.pieces) found.texts here.template here.full here.utf8
      (added ∙ ap (λ f. old ++ rendered f) (same_found (unrolled nodes stack) made found is told)
      ∙ ap (λ x. old ++ x) (sym (joined_page found.pieces found.texts)));
  filled = λ found told. has_urls nodes found (fills nodes stack made found sound is utf8 told);
}

pub writes_page : (nodes : Nodes Placed) (stack : Stack) (made : Unrolling) (old new : Option (List ℕ)) → AreTemplates nodes → unrolled nodes stack ≡ Ok made →
    AllByRecursion IsUtf8 made.texts → Appends old new (rendered made) → WritesPage (unrolled nodes stack) old new
writes_page nodes stack made old new sound is utf8 added = record {
  page = λ found told. rendered_page nodes stack found sound told (fills nodes stack made found sound is utf8 told).utf8;
  joins = λ found told.
      let here = fills nodes stack made found sound is utf8 told in
      written_after (joined found.pieces) found.texts old new here.template here.full here.utf8
      (subst (λ x. Appends old new x)
      (ap rendered (same_found (unrolled nodes stack) made found is told) ∙ sym (joined_page found.pieces found.texts)) added);
  filled = λ found told. has_urls nodes found (fills nodes stack made found sound is utf8 told);
}

-- ---- by what was answered

pub renders : (told : Unrolled) (old new : List ℕ) (result : Result (Unit {0}) DataFault) → PutsBehind told old new result → Renders told old new result
renders told old new (Ok done) put = (put.found, put.same, put.taken)
renders told old new (Err (Value position why)) stopped = stopped
renders told old new (Err Memory) kept = kept

pub appends_page : (nodes : Nodes Placed) (stack : Stack) (old new : List ℕ) (result : Result (Unit {0}) DataFault) → AreTemplates nodes →
    PutsBehind (unrolled nodes stack) old new result → OnOk result (AddsPage (unrolled nodes stack) old new)
appends_page nodes stack old new (Ok done) sound put = adds_page nodes stack put.found old new sound put.same put.utf8 put.taken
appends_page nodes stack old new (Err fault) sound stopped = tt

pub all_written : (nodes : Nodes Placed) (stack : Stack) (old new : Option (List ℕ)) (result : Result (Unit {0}) (WriteFault DataFault)) →
    AreTemplates nodes → Writes (unrolled nodes stack) old new result →
    OnOk result ((found : Unrolling) → unrolled nodes stack ≡ Ok found → AllByRecursion IsUtf8 found.texts) → OnOk result (WritesPage (unrolled nodes stack) old new)
all_written nodes stack old new (Ok done) sound written utf8 =
    writes_page nodes stack written.0 old new sound written.1 (utf8 written.0 written.1) written.2
all_written nodes stack old new (Err fault) sound written utf8 = tt
