-- Sources: markup, and slots that are names between `{{` and `}}`. A `{{` of the markup itself is written `{{"{{"}}`: its
-- first two bytes are the last of the markup before it, and the markup behind it is a part of its own.
use Rattle.std.specs.Prelude.{◌≡◌, ◌≢◌, ⊤, ℕ, Bool, true, false, ◌&&◌, ◌||◌, not, List, [], ◌∷◌, ◌++◌, ◌==◌, bytes_eq, codes, eqb, length}
use Rattle.std.specs.Char.{is_ascii_alphanumeric}
use Rattle.std.specs.List.{list_all, starts_with}
use Rattle.html_template.specs.Templates.{Given, GivenMarkup, GivenSlot}

-- the marks around a name
abbrev pub opening : List ℕ
opening = codes "{{"

abbrev pub closing : List ℕ
closing = codes "}}"

-- what stands between the marks, where `{{` is markup
abbrev pub quoted_opening : List ℕ
quoted_opening = codes "\"{{\""

abbrev pub slot_text : List ℕ → List ℕ
slot_text name = opening ++ (name ++ closing)

-- what stands behind markup that other markup follows, and before anything else
abbrev pub behind_markup : List Given → List ℕ
behind_markup (GivenMarkup more ∷ parts) = quoted_opening ++ closing
behind_markup other = []

-- the source of parts whose slots have these names, in order
abbrev pub written : List Given → List (List ℕ) → List ℕ
written [] names = []
written (GivenMarkup bytes ∷ parts) names = bytes ++ (behind_markup parts ++ written parts names)
written (GivenSlot ∷ parts) [] = written parts []
written (GivenSlot ∷ parts) (name ∷ names) = slot_text name ++ written parts names

-- one or more ASCII letters, digits and `_`
abbrev pub are_letters : List ℕ → Bool
are_letters bytes = list_all (λ b. is_ascii_alphanumeric b || b == 95) bytes

abbrev pub is_name : List ℕ → Bool
is_name name = not (length name == 0) && are_letters name

-- the mark stands nowhere in the bytes
abbrev pub Lacks : List ℕ → List ℕ → Type 0
Lacks mark bytes = (front rest : List ℕ) → bytes ≢ front ++ (mark ++ rest)

-- the bytes end in the opening mark, and lack it before
pub record EndsInOpening (bytes : List ℕ) : Type 0 where
  pub front : List ℕ
  pub is : bytes ≡ front ++ opening
  pub first : Lacks opening front

-- markup that other markup follows ends in the opening mark; other markup lacks it
abbrev pub IsPlainBefore : List Given → List ℕ → Type 0
IsPlainBefore (GivenMarkup more ∷ parts) bytes = EndsInOpening bytes
IsPlainBefore other bytes = Lacks opening bytes

-- no slot begins in the markup
abbrev pub ArePlain : List Given → Type 0
ArePlain [] = ⊤
ArePlain (GivenMarkup bytes ∷ parts) = IsPlainBefore parts bytes × ArePlain parts
ArePlain (GivenSlot ∷ parts) = ArePlain parts

-- there is a name for each slot
abbrev pub AreNamed : List Given → List (List ℕ) → Type 0
AreNamed [] [] = ⊤
AreNamed [] (name ∷ names) = ⊥
AreNamed (GivenMarkup bytes ∷ parts) names = AreNamed parts names
AreNamed (GivenSlot ∷ parts) [] = ⊥
AreNamed (GivenSlot ∷ parts) (name ∷ names) = (is_name name ≡ true) × AreNamed parts names

-- the bytes are the source of these parts and names
pub record IsSourceOf (parts : List Given) (names : List (List ℕ)) (bytes : List ℕ) : Type 0 where
  pub whole : written parts names ≡ bytes
  pub plain : ArePlain parts
  pub named : AreNamed parts names

-- markup and slots take turns: markup comes first, behind each slot, and so last; it may follow markup
abbrev pub TakeTurns : List Given → Type 0
TakeTurns [] = ⊥
TakeTurns (GivenSlot ∷ parts) = ⊥
TakeTurns (GivenMarkup bytes ∷ []) = ⊤
TakeTurns (GivenMarkup bytes ∷ GivenSlot ∷ parts) = TakeTurns parts
TakeTurns (GivenMarkup bytes ∷ GivenMarkup more ∷ parts) = TakeTurns (GivenMarkup more ∷ parts)

-- with a source behind them, these parts and names are a source, too
abbrev pub LeadOn : List Given → List (List ℕ) → List ℕ → Type 0
LeadOn parts names front =
    (more : List Given) (others : List (List ℕ)) (rest : List ℕ) → TakeTurns more → IsSourceOf more others rest →
    IsSourceOf (parts ++ more) (names ++ others) (front ++ rest) × TakeTurns (parts ++ more)

-- ---- the same of a source at hand, as a test

abbrev pub opens_slot : List ℕ → Bool
opens_slot [] = false
opens_slot (b ∷ bytes) = starts_with eqb (b ∷ bytes) opening || opens_slot bytes

abbrev pub ends_in_opening : List ℕ → Bool
ends_in_opening [] = false
ends_in_opening (b ∷ bytes) = bytes_eq (b ∷ bytes) opening || (not (starts_with eqb (b ∷ bytes) opening) && ends_in_opening bytes)

abbrev pub is_plain_before : List Given → List ℕ → Bool
is_plain_before (GivenMarkup more ∷ parts) bytes = ends_in_opening bytes
is_plain_before other bytes = not (opens_slot bytes)

abbrev pub are_plain : List Given → Bool
are_plain [] = true
are_plain (GivenMarkup bytes ∷ parts) = is_plain_before parts bytes && are_plain parts
are_plain (GivenSlot ∷ parts) = are_plain parts

abbrev pub are_named : List Given → List (List ℕ) → Bool
are_named [] [] = true
are_named [] (name ∷ names) = false
are_named (GivenMarkup bytes ∷ parts) names = are_named parts names
are_named (GivenSlot ∷ parts) [] = false
are_named (GivenSlot ∷ parts) (name ∷ names) = is_name name && are_named parts names

abbrev pub take_turns : List Given → Bool
take_turns [] = false
take_turns (GivenSlot ∷ parts) = false
take_turns (GivenMarkup bytes ∷ []) = true
take_turns (GivenMarkup bytes ∷ GivenSlot ∷ parts) = take_turns parts
take_turns (GivenMarkup bytes ∷ GivenMarkup more ∷ parts) = take_turns (GivenMarkup more ∷ parts)

-- the bytes are the source of these parts, which take turns, and names
abbrev pub is_source : List Given → List (List ℕ) → List ℕ → Bool
is_source parts names bytes = bytes_eq (written parts names) bytes && are_plain parts && are_named parts names && take_turns parts
