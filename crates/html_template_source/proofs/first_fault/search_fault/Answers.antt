use Rattle.html_template.specs.Templates.{texts_of}
use Rattle.html_template_source.specs.Bindings.{bindings_of}
use Rattle.html_template_source.specs.SlotNames.{slot_names}
use Rattle.html_template_source.proofs.FirstFaults.{told_early, told_late}
use Rattle.html_template_source.proofs.first_fault.search_fault.Goals as goal

pub returns-in-Some : goal.returns-in-Some
returns-in-Some g c =
    told_early (texts_of c.args.names.now.distinct.items) (slot_names c.args.names.now) (bindings_of c.args.bindings.now) c.first_refused.result c.in-Some.fault
    c.args.names.now.used c.first_refused.ensures c.in-Some.is

pub returns-in-None : goal.returns-in-None
returns-in-None g c =
    told_late (texts_of c.args.names.now.distinct.items) (slot_names c.args.names.now) (bindings_of c.args.bindings.now) c.first_refused.result c.first_missing.result
    c.args.names.now.used c.first_refused.ensures c.in-None.is c.first_missing.ensures
