-- How a fault ends the program.
use Rattle.std.specs.Prelude.{ℕ, List, codes}
use Rattle.hesc_places.specs.declared.markup.types.FormFault.{FormFault}
use Rattle.hesc_places.specs.declared.markup.types.FormFault.TheVariants as form
use Rattle.hesc_places.specs.declared.place.enclosing.PlaceFault.{PlaceFault}
use Rattle.hesc_places.specs.declared.place.enclosing.PlaceFault.TheVariants as place
use Rattle.hesc_tool.specs.declared.faults.Fault.{Fault}
use Rattle.hesc_tool.specs.declared.faults.Fault.TheVariants.{Usage, Read, NotUtf8, NoPage, NotForPlace, EmptyUnquoted, BadName, Memory, Write}

-- the program's status
abbrev pub status_of : Fault → ℕ
status_of Usage = 2
status_of Read = 1
status_of NotUtf8 = 1
status_of NoPage = 1
status_of NotForPlace = 1
status_of EmptyUnquoted = 1
status_of BadName = 1
status_of Memory = 1
status_of Write = 1

-- the line on standard error, without its line feed
abbrev pub line_of : Fault → List ℕ
line_of Usage = codes "usage: hesc COMMAND [ARGUMENT..]"
line_of Read = codes "hesc: input cannot be read"
line_of NotUtf8 = codes "hesc: input is not UTF-8"
line_of NoPage = codes "hesc: no page"
line_of NotForPlace = codes "hesc: encoder does not suit the place"
line_of EmptyUnquoted = codes "hesc: empty unquoted value"
line_of BadName = codes "hesc: bad attribute name"
line_of Memory = codes "hesc: out of memory"
line_of Write = codes "hesc: output cannot be written"

-- why a text cannot stand in a place
abbrev pub place_refusal : PlaceFault → Fault
place_refusal place.NotForPlace = NotForPlace
place_refusal place.EmptyUnquoted = EmptyUnquoted
place_refusal place.Memory = Memory

-- what is wrong with an attribute
abbrev pub form_refusal : FormFault → Fault
form_refusal (form.BadName number) = BadName
form_refusal (form.EmptyUnquoted number) = EmptyUnquoted
form_refusal form.Memory = Memory
