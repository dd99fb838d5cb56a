use Rattle.std.proofs.Common.{map}
use Rattle.html_template.specs.Templates.{given, part_of, texts_of}
use Rattle.html_template_source.specs.NamedTemplates.{chunks_of, names_of}
use Rattle.html_template_source.proofs.OneSource.{is_source_of, same_source}
use Rattle.html_template_source.proofs.laws.own_source_law.Goals as goal

pub returns : goal.returns
returns g c =
    let own = is_source_of (map given c.args.parts.now) (texts_of c.args.names.now) c.args.source.now c.requires.own in
    let same = same_source (map part_of (chunks_of c.args.template.now)) (map given c.args.parts.now) (names_of c.args.template.now) (texts_of c.args.names.now) c.args.source.now
    c.requires.turns c.requires.parsed own.1 own.0 in
    record { parts = same.0; names = same.1 }
