use Rattle.html_urls.specs.Shapes.{shape_of}
use Rattle.html_urls.specs.Slots.{given}
use Rattle.html_urls.proofs.Shapes.ShapeLaw.{shape_law}
use Rattle.html_urls.proofs.Shapes.Slots.Scheme.{slot_image, slot_number, slot_scheme}
use Rattle.html_urls.proofs.laws.url_shape_law.Goals as goal

pub returns : goal.returns
returns c =
    let parts = given c.args.parts.now in
    record {
      one = λ base web. (shape_of base parts, λ texts fills. shape_law base parts texts web fills);
      shape = λ base texts web fills. shape_law base parts texts web fills;
      scheme = λ base text texts web link fills. slot_scheme base parts text texts web link fills;
      number = λ base text texts web other no_image fills. slot_number base parts text texts web other no_image fills;
      image = λ base text texts web image fills. slot_image base parts text texts web image fills;
    }
