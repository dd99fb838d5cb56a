use Rattle.std.proofs.Common.{◌≡◌, ◌++◌, length, map}
use Rattle.html_template.specs.Templates.{texts_of}
use Rattle.html_template_source.specs.Names.{AreBelow, AreSingle, AreUsed, IsIndexOf, name_at}
use Rattle.html_template_source.proofs.names.Names.of.Given as goal

abbrev pub invariant-slots : goal.invariant-slots
invariant-slots g l = record {
  single : AreSingle (texts_of l.distinct.items);
  indexed : IsIndexOf l.found (texts_of l.distinct.items);
  below : AreBelow (length l.distinct.items) l.numbers.items;
  used : AreUsed (texts_of l.distinct.items) l.numbers.items;
  named : map (name_at (texts_of l.distinct.items)) l.numbers.items ++ texts_of l.rest ≡ texts_of l.slots;
}

abbrev pub decreases-slots : goal.decreases-slots
decreases-slots g l = length l.rest
