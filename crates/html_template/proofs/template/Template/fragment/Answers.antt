use Rattle.std.proofs.Common.{◌++◌, ◌∙◌, ap, subst, sym}
use Rattle.html_template.specs.Structure.{IsWhole}
use Rattle.html_template.specs.TemplatePieces.{pieces_of}
use Rattle.html_template.specs.Templates.{page, texts_of}
use Rattle.html_template.proofs.Fragments.{page_whole}
use Rattle.html_template.proofs.template.Template.fragment.Goals as goal

pub of_page-requires : goal.of_page-requires
of_page-requires g c =
    let pieces = pieces_of c.args.self.now in
    let texts = texts_of c.args.texts.now in
    record {
      whole = subst IsWhole (sym (c.in_ok-append.ensures.appended ∙ ap (λ old. old ++ page pieces texts) c.new-made.ensures.bytes))
          (page_whole pieces texts (page pieces texts) c.in_ok-append.ensures.read);
    }
