use Rattle.hesc_specs.proofs.Strings.Different.{escaped-injective, escaped-style}
use Rattle.hesc_laws.proofs.different_encodings.Goals as goal

pub returns-clause-kept : goal.returns-clause-kept
returns-clause-kept c = λ keeps. escaped-injective c.args.class c.args.a.now c.args.b.now keeps c.utf8.a c.utf8.b

pub returns-clause-of_style : goal.returns-clause-of_style
returns-clause-of_style c = λ style. escaped-style c.args.class c.args.a.now c.args.b.now style c.utf8.a c.utf8.b
