-- How a fault ends the program: its status, and the line that tells it.
use Rattle.std.specs.Prelude.{◌++◌, ◌==◌, ℕ, List, [], ◌∷◌, codes, decimal, if◌then◌else◌, length, reverse}
use Rattle.html_template.specs.declared.faults.PartFault.{PartFault}
use Rattle.html_template.specs.declared.faults.PartFault.TheVariants as part
use Rattle.html_template.specs.declared.faults.TextFault.TheVariants as text
use Rattle.html_view.specs.declared.faults.DataFault.{DataFault}
use Rattle.html_view.specs.declared.faults.DataFault.TheVariants as of_data
use Rattle.html_view.specs.declared.faults.Position.{Position}
use Rattle.html_view.specs.declared.faults.TagFault.{TagFault}
use Rattle.html_view.specs.declared.faults.TagFault.TheVariants as tag
use Rattle.html_view.specs.declared.faults.ValueFault.{ValueFault}
use Rattle.html_view.specs.declared.faults.ValueFault.TheVariants as value
use Rattle.html_view.specs.declared.faults.ViewFault.{ViewFault}
use Rattle.html_view.specs.declared.faults.ViewFault.TheVariants as of_view
use Rattle.json.specs.declared.error.Error.{Error}
use Rattle.json.specs.declared.error.Error.TheVariants as json
use Rattle.hesc_views.specs.Places.{spot_at, text_at}
use Rattle.hesc_views.specs.declared.faults.Fault.{Fault}
use Rattle.hesc_views.specs.declared.faults.Fault.TheVariants.{Usage, UnreadableFile, FileNotUtf8, At, Unfinished, UnreadableInput, InputNotUtf8, NotJson, RepeatedKey, Memory, Write}
use Rattle.hesc_views.specs.declared.faults.Refusal.{Refusal}
use Rattle.hesc_views.specs.declared.faults.Refusal.TheVariants.{Tag, Part, Ambiguous, NotInText, TooManyWays, Value}
use Rattle.hesc_views.specs.declared.faults.Standing.{Standing}
use Rattle.hesc_views.specs.declared.faults.Standing.TheVariants.{None, One, Behind}
use Rattle.hesc_views.specs.declared.place.Spot.{Spot}

-- the program's status
abbrev pub status_of : Fault → ℕ
status_of Usage = 2
status_of other = 1

-- ---- what is wrong

abbrev pub wrong_tag : TagFault → List ℕ
wrong_tag tag.Unclosed = codes "no }} ends this tag"
wrong_tag tag.BadName = codes "bad name; a name is of letters, digits, _ and -, with dots between words"
wrong_tag tag.Raw = codes "no }}} ends this tag"
wrong_tag tag.BadTag = codes "no tag begins like this; for a {{ in the page write {{\"{{\"}}"
wrong_tag tag.Unopened = codes "nothing of this name is open here"
wrong_tag tag.Unended = codes "this has no end; write {{/name}}"
wrong_tag tag.NoPartial = codes "no such partial; give its file, in front of partials that ask for it"
wrong_tag tag.TooDeep = codes "more than 32 tags stand in one another"

abbrev pub wrong_part : PartFault → List ℕ
wrong_part part.Malformed = codes "browsers may not read this markup alike"
wrong_part part.NoPlace = codes "no text may stand here"
wrong_part part.Forbidden = codes "no text may stand here, since it would be read as code"
wrong_part part.NotPlain = codes "this URL has a slot; percent-encode white space, \\ and other references than &amp;"
wrong_part part.NotFixed = codes "the host of this URL is open; begin it with / or https://host/"
wrong_part part.DotSegment = codes "a segment of this URL may be . or ..; write other bytes beside the dots"
wrong_part part.AfterLink = codes "a slot begins this URL; it may go on with one /, ?, #, a letter, a digit or _"
wrong_part part.AfterStyleValue = codes "a slot stands in this declaration; up to its ; it may go on with letters, digits, spaces and - _ # % . , + !"

abbrev pub wrong_value : ValueFault → List ℕ
wrong_value value.Missing = codes "no value has this name"
wrong_value value.NotAText = codes "the value is no text"
wrong_value value.NotJson = codes "the value has a fragment in it, of which there is no JSON"
wrong_value value.NotAFragment = codes "the value is no fragment, as no value of JSON is; write {{name}} for its text"
wrong_value value.NotAttributes = codes "the value is no object of attributes; this slot stands between attributes"
wrong_value value.Repeated = codes "the list has two items or more, and this section stands once"
wrong_value (value.Unfit text.EmptyUnquoted) = codes "the text is empty; write quotes around the slot"
wrong_value (value.Unfit text.EmptySegment) = codes "the text is empty, and a segment of a URL is not"
wrong_value (value.Unfit text.DotSegment) = codes "the text is . or .., and a segment of a URL is not"
wrong_value (value.Unfit text.NotALink) = codes "the text is no link; its scheme has to be http, https or mailto"
wrong_value (value.Unfit text.NotAnOwnPath) = codes "the text is no own path; begin it with one /, and leave out white space, \\ and dot segments"
wrong_value (value.Unfit text.NotABase) = codes "the text is no base; begin it with one /, http:// or https://, leave out ?, # and dot segments, and end it in / before a name alone"
wrong_value (value.Unfit text.NotAnOwnBase) = codes "the text is no base of the page's own host; begin it with one /"
wrong_value (value.Unfit text.NotAStyleValue) = codes "the text is no piece of a declaration's value; it may have letters, digits, spaces and - _ # % . , +"

abbrev pub wrong_here : Refusal → List ℕ
wrong_here (Tag why) = wrong_tag why
wrong_here (Part why standing) = wrong_part why
wrong_here (Value why) = wrong_value why
wrong_here Ambiguous = codes "this slot stands in two places, or before two kinds of markup; write one slot for each"
wrong_here NotInText = codes "no fragment may stand here, but in text"
wrong_here TooManyWays = codes "too many sections stand within one tag; let each hold whole attributes or whole tags"

abbrev pub what_is_wrong : Fault → List ℕ
what_is_wrong Usage = codes "usage: hesc COMMAND [ARGUMENT..]"
what_is_wrong (UnreadableFile file) = codes "cannot be read"
what_is_wrong (FileNotUtf8 file) = codes "is not UTF-8"
what_is_wrong (Unfinished standing) = codes "ends within a tag, a comment, a reference or an element"
what_is_wrong UnreadableInput = codes "input cannot be read"
what_is_wrong InputNotUtf8 = codes "input is not UTF-8"
what_is_wrong NotJson = codes "input is not JSON"
what_is_wrong RepeatedKey = codes "input has a key twice in one object"
what_is_wrong Memory = codes "out of memory"
what_is_wrong Write = codes "output cannot be written"
what_is_wrong (At spot why) = wrong_here why

-- ---- where

abbrev pub spot_text : Spot → List ℕ
spot_text spot = codes ":" ++ (decimal spot.line ++ (codes ":" ++ decimal spot.column))

-- who tells it, and the file and the place in it, where the fault is of one
abbrev pub front_of : List (List ℕ) → Fault → List ℕ
front_of paths Usage = []
front_of paths (UnreadableFile file) = codes "hesc: " ++ (text_at paths file ++ codes ": ")
front_of paths (FileNotUtf8 file) = codes "hesc: " ++ (text_at paths file ++ codes ": ")
front_of paths (Unfinished standing) = codes "hesc: " ++ (text_at paths 0 ++ codes ": ")
front_of paths (At spot why) = codes "hesc: " ++ (text_at paths spot.file ++ (spot_text spot ++ codes ": "))
front_of paths other = codes "hesc: "

-- ---- which sections stand

-- by the fault
abbrev pub standing_in : Fault → Standing
standing_in (At spot (Part why standing)) = standing
standing_in (Unfinished standing) = standing
standing_in other = None

abbrev pub place_text : List (List ℕ) → Spot → List ℕ
place_text paths spot = text_at paths spot.file ++ spot_text spot

abbrev pub count_text : ℕ → List ℕ
count_text before = if before == 0 then [] else codes ", and " ++ (decimal before ++ codes " before them")

abbrev pub two_text : List (List ℕ) → Spot → Spot → List ℕ
two_text paths first last = place_text paths first ++ (codes " and " ++ (place_text paths last ++ codes " stand"))

abbrev pub sections_text : List (List ℕ) → Standing → List ℕ
sections_text paths None = []
sections_text paths (One section) = codes " (if the section at " ++ (place_text paths section ++ codes " stands)")
sections_text paths (Behind before first last) =
    codes " (if the sections at " ++ (two_text paths first last ++ (count_text before ++ codes ")"))

-- the line on standard error, without its line feed
abbrev pub line_text : List (List ℕ) → Fault → List ℕ
line_text paths fault = front_of paths fault ++ (what_is_wrong fault ++ sections_text paths (standing_in fault))

-- ---- faults of what stands below

-- sections, from the last one to the first
abbrev pub standing_back : List (List ℕ) → List Position → Standing
standing_back texts [] = None
standing_back texts (one ∷ []) = One (spot_at texts one)
standing_back texts (last ∷ first ∷ before) = Behind (length before) (spot_at texts first) (spot_at texts last)

abbrev pub standing_at : List (List ℕ) → List Position → Standing
standing_at texts sections = standing_back texts (reverse sections)

-- with these sections standing
abbrev pub view_fault : List (List ℕ) → List Position → ViewFault → Fault
view_fault texts sections (of_view.Tag position why) = At (spot_at texts position) (Tag why)
view_fault texts sections (of_view.Part position why) = At (spot_at texts position) (Part why (standing_at texts sections))
view_fault texts sections (of_view.Ambiguous position) = At (spot_at texts position) Ambiguous
view_fault texts sections (of_view.NotInText position) = At (spot_at texts position) NotInText
view_fault texts sections (of_view.TooManyWays position) = At (spot_at texts position) TooManyWays
view_fault texts sections of_view.Unfinished = Unfinished (standing_at texts sections)
view_fault texts sections of_view.Memory = Memory

abbrev pub data_fault : List (List ℕ) → DataFault → Fault
data_fault texts (of_data.Value position why) = At (spot_at texts position) (Value why)
data_fault texts of_data.Memory = Memory

abbrev pub json_fault : Error → Fault
json_fault json.Invalid = NotJson
json_fault json.OutOfMemory = Memory
json_fault json.TooLong = Memory
json_fault json.DuplicateKey = RepeatedKey
