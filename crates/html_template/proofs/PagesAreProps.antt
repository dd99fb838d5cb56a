-- There is one proof at most that texts fill a template, and that bytes are a page, so a type may keep it.
use Rattle.std.proofs.Common.{ℕ, List, [], ◌∷◌}
use Rattle.std.proofs.Props.{props}
use Rattle.std.specs.Coded.{×_prop}
use Rattle.html_tokenizer.specs.declared.slot_place.SlotPlace.{SlotPlace}
use Rattle.html_tokenizer.specs.declared.slot_place.SlotPlace.TheVariants as place
use Rattle.html_template.specs.declared.parts.SlotKind.{SlotKind}
use Rattle.html_template.specs.declared.parts.SlotKind.TheVariants as kind
use Rattle.html_template.specs.Slots.{FitsPlace, MayFill}
use Rattle.html_template.specs.Structure.{IsPageOf}
use Rattle.html_template.specs.TemplateFaults.{placed}
use Rattle.html_template.specs.Templates.{Chunk, Fill, Given, Markup, Slot}

FitsPlace-prop : (p : SlotPlace) (text : List ℕ) → IsProp (FitsPlace p text)
FitsPlace-prop place.Unquoted text = hlevel props
FitsPlace-prop place.Text text = hlevel props
FitsPlace-prop place.DoubleQuoted text = hlevel props
FitsPlace-prop place.SingleQuoted text = hlevel props
FitsPlace-prop place.ScriptSingle text = hlevel props
FitsPlace-prop place.ScriptDouble text = hlevel props
FitsPlace-prop place.StyleSingle text = hlevel props
FitsPlace-prop place.StyleDouble text = hlevel props

MayFill-prop : (p : SlotPlace) (kind : SlotKind) (text : List ℕ) → IsProp (MayFill p kind text)
MayFill-prop p kind.Text text = FitsPlace-prop p text
MayFill-prop p (kind.UrlPart slot) text = hlevel props
MayFill-prop p kind.Link text = hlevel props
MayFill-prop p kind.OwnPath text = hlevel props
MayFill-prop p (kind.Base behind) text = hlevel props
MayFill-prop p (kind.OwnBase behind) text = hlevel props
MayFill-prop p kind.Literal text = hlevel props
MayFill-prop p kind.Json text = hlevel props
MayFill-prop p kind.StyleValue text = hlevel props

pub Fill-prop : (chunks : List Chunk) (texts : List (List ℕ)) → IsProp (Fill chunks texts)
Fill-prop [] [] = hlevel props
Fill-prop [] (text ∷ texts) = hlevel props
Fill-prop (Markup bytes ∷ chunks) texts = Fill-prop chunks texts
Fill-prop (Slot p kind ∷ chunks) [] = hlevel props
Fill-prop (Slot p kind ∷ chunks) (text ∷ texts) = ×_prop (MayFill-prop p kind text) (Fill-prop chunks texts)

pub IsPageOf-prop : (parts : List Given) (texts : List (List ℕ)) (bytes : List ℕ) → IsProp (IsPageOf parts texts bytes)
IsPageOf-prop parts texts bytes = hlevel (props, Fill-prop (placed parts) texts)
