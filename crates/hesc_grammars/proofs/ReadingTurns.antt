-- The turns of a reader: what was read, and the reading of the rest, are the reading of the whole.
use Rattle.std.proofs.Common.{ℕ, zero, suc, append-nil, add-zero, ◌≡◌, ◌≢◌, ◌≤◌, ◌<◌, ◌+◌, ◌-◌, List, [], ◌∷◌, ◌++◌, Option, Some, None, length, take, drop, encode_utf8, refl, sym, ap, ◌∙◌, arith, append_assoc}
use Rattle.std.proofs.lemmas.Bool.Decides.{nat_tests}
use Rattle.std.proofs.lemmas.List.{length-drop, drop-drop}
use Rattle.hesc_grammars.specs.declared.step.Mode.{Mode}
use Rattle.hesc_grammars.specs.declared.step.Step.{Step}
use Rattle.hesc_grammars.specs.declared.step.Step.TheVariants.{Close, Byte, Character, Nothing}
use Rattle.hesc_grammars.specs.declared.place.Place.{Place}
use Rattle.hesc_grammars.specs.Bodies.{script_body_step, style_body_step}
use Rattle.hesc_grammars.specs.Html.{marked_step, unquoted_step}
use Rattle.hesc_grammars.specs.Places.{step_of, reading}
use Rattle.hesc_grammars.specs.Reading.{after, taken, reading_after}
use Rattle.hesc_grammars.specs.ScriptStrings.{script_string_step}
use Rattle.hesc_grammars.specs.StyleStrings.{style_string_step}
use Rattle.hesc_grammars.specs.Stretches.{IsStretch}
use Rattle.hesc_grammars.proofs.Takes.{after-nothing, after-after}

-- over all the bytes, what was read and the reading of the rest are the reading of the whole
pub record Follows (place : Place) (bytes value : List ℕ) (mode : Mode) (rest : List ℕ) : Type 0 where
  pub shorter : length rest ≤ length bytes
  pub known : after value (length bytes - length rest) (reading_after (step_of place) 0 mode rest) ≡ reading place bytes

-- what the bytes begin with decides
turned : (step : Mode → List ℕ → Step) (mode : Mode) (rest : List ℕ) → length rest ≢ 0 →
    reading_after step 0 mode rest ≡ taken (step mode rest) (λ more next. reading_after step more next (drop 1 rest))
turned step mode [] full = absurd (full refl)
turned step mode (b ∷ rest) full = refl

-- the further bytes of an item are passed over
passed : (step : Mode → List ℕ → Step) (mode : Mode) (more : ℕ) (rest : List ℕ) → more ≤ length rest →
    reading_after step more mode rest ≡ after [] more (reading_after step 0 mode (drop more rest))
passed step mode zero rest within = sym (after-nothing (reading_after step 0 mode rest))
passed step mode (suc more) [] within = absurd (omega arith)
passed step mode (suc more) (b ∷ rest) within =
    let following : Option (List ℕ × ℕ) = reading_after step 0 mode (drop more rest) in
    ap (after [] 1) (passed step mode more rest (omega arith)) ∙
    (after-after [] [] 1 more following ∙ ap (λ n. after [] n following) (omega arith))

-- where they are not all there, there is no reading
unfinished : (step : Mode → List ℕ → Step) (mode : Mode) (more : ℕ) (rest : List ℕ) → length rest < more →
    reading_after step more mode rest ≡ None
unfinished step mode zero rest long = absurd (omega arith)
unfinished step mode (suc more) [] long = refl
unfinished step mode (suc more) (b ∷ rest) long = rw (unfinished step mode more rest (omega arith)) refl

-- an item of one byte and so many more, with its value and the mode after it
abbrev IsItem : Step → ℕ → List ℕ → Mode → Type 0
IsItem found more item next = (go_on : ℕ → Mode → Option (List ℕ × ℕ)) → taken found go_on ≡ after item 1 (go_on more next)

-- nothing begins where no byte is left
begins_nothing : (place : Place) (mode : Mode) → step_of place mode [] ≡ Nothing
unfolding marked_step unquoted_step script_string_step style_string_step script_body_step style_body_step
begins_nothing place mode = grind (arith, nat_tests)

-- so a closing mark has a byte
pub closes_by_byte : (place : Place) (mode : Mode) (rest : List ℕ) → Close ≡ step_of place mode rest → length rest ≢ 0
closes_by_byte place mode [] close = absurd (cc (begins_nothing place mode, close))
closes_by_byte place mode (b ∷ rest) close = λ none. cc

-- at the closing mark the reading ends
pub ends : {place : Place} {bytes value : List ℕ} {mode : Mode} {rest : List ℕ} → Follows place bytes value mode rest →
    Close ≡ step_of place mode rest → Some (value, length bytes - length rest) ≡ reading place bytes
ends {place} {bytes} {value} {mode} {rest} follows close =
    let whole : after value (length bytes - length rest) (taken Close (λ more next. reading_after (step_of place) more next (drop 1 rest))) ≡ reading place bytes =
    rw (turned (step_of place) mode rest (closes_by_byte place mode rest close), sym close) at follows.known in
    rw (append-nil value, add-zero (length bytes - length rest)) at whole

-- where nothing is left there is no reading
none_left : {place : Place} {bytes value : List ℕ} {mode : Mode} {rest : List ℕ} → Follows place bytes value mode rest → length rest ≡ 0 → None ≡ reading place bytes
none_left {rest = []} follows empty = follows.known
none_left {rest = b ∷ rest} follows empty = absurd (cc)

-- nor where nothing begins
pub knows_nothing : {place : Place} {bytes value : List ℕ} {mode : Mode} {rest : List ℕ} → Follows place bytes value mode rest →
    Nothing ≡ step_of place mode rest → None ≡ reading place bytes
knows_nothing follows nothing = grind (arith, nat_tests, none_left, turned)

-- nor where an item is not all there
lacks : {place : Place} {bytes value : List ℕ} {mode next : Mode} {rest : List ℕ} (found : Step) (more : ℕ) (item : List ℕ) → IsItem found more item next →
    Follows place bytes value mode rest → found ≡ step_of place mode rest → length rest ≤ more → None ≡ reading place bytes
lacks found more item is_item follows is long = grind (arith, nat_tests, none_left, unfinished, length-drop, turned)

-- an item is read, and the reading goes on after it
goes_past : {place : Place} {bytes value items : List ℕ} {mode next : Mode} {rest following : List ℕ} (found : Step) (more : ℕ) (item : List ℕ) → IsItem found more item next →
    Follows place bytes value mode rest → found ≡ step_of place mode rest → more < length rest →
    items ≡ value ++ item → following ≡ drop (more + 1) rest → Follows place bytes items next following
goes_past {place} {bytes} {value} {items} {mode} {next} {rest} {following} found more item is_item follows is within added dropped =
    let full : length rest ≢ 0 = λ none. omega (arith, none, within) in
    let shorter : length following ≡ length rest - (more + 1) = ap length dropped ∙ length-drop (more + 1) rest in
    let last : Option (List ℕ × ℕ) = reading_after (step_of place) 0 next (drop more (drop 1 rest)) in
    let whole : after value (length bytes - length rest) (after item 1 (after [] more last)) ≡ reading place bytes =
    rw (
      turned (step_of place) mode rest full,
      sym is,
      is_item (λ more next. reading_after (step_of place) more next (drop 1 rest)),
      passed (step_of place) next more (drop 1 rest) (omega (arith, length-drop 1 rest)),
    ) at follows.known in
    let count : (length bytes - length rest) + (1 + more) ≡ length bytes - length following = omega (arith, shorter, follows.shorter) in
    let place_after : drop more (drop 1 rest) ≡ following = drop-drop more 1 rest ∙ (ap (λ n. drop n rest) (omega arith) ∙ sym dropped) in
    let joined : after (value ++ item) ((length bytes - length rest) + (1 + more)) last ≡ reading place bytes =
    rw (after-after item [] 1 more last, append-nil item, after-after value item (length bytes - length rest) (1 + more) last) at whole in
    record {
      shorter = omega (arith, shorter, follows.shorter);
      known = rw (added, sym count, sym place_after) joined;
    }

pub lacks_byte : {place : Place} {bytes value : List ℕ} {mode next : Mode} {rest : List ℕ} {more b : ℕ} →
    Follows place bytes value mode rest → Byte more b next ≡ step_of place mode rest → length rest ≤ more → None ≡ reading place bytes
lacks_byte {next = next} {more = more} {b} = lacks (Byte more b next) more (b ∷ []) (λ go_on. refl)

pub lacks_character : {place : Place} {bytes value : List ℕ} {mode next : Mode} {rest : List ℕ} {more c : ℕ} →
    Follows place bytes value mode rest → Character more c next ≡ step_of place mode rest → length rest ≤ more → None ≡ reading place bytes
lacks_character {next = next} {more = more} {c} = lacks (Character more c next) more (encode_utf8 c) (λ go_on. refl)

pub goes_past_byte : {place : Place} {bytes value items : List ℕ} {mode next : Mode} {rest following : List ℕ} {more b : ℕ} →
    Follows place bytes value mode rest → Byte more b next ≡ step_of place mode rest → more < length rest →
    items ≡ value ++ b ∷ [] → following ≡ drop (more + 1) rest → Follows place bytes items next following
goes_past_byte {next = next} {more = more} {b} = goes_past (Byte more b next) more (b ∷ []) (λ go_on. refl)

pub goes_past_character : {place : Place} {bytes value items : List ℕ} {mode next : Mode} {rest following : List ℕ} {more c : ℕ} →
    Follows place bytes value mode rest → Character more c next ≡ step_of place mode rest → more < length rest →
    items ≡ value ++ encode_utf8 c → following ≡ drop (more + 1) rest → Follows place bytes items next following
goes_past_character {next = next} {more = more} {c} = goes_past (Character more c next) more (encode_utf8 c) (λ go_on. refl)

-- the bytes of a stretch are read as they stand
goes_past_bytes : {place : Place} {bytes value : List ℕ} {mode : Mode} (count : ℕ) (rest : List ℕ) →
    Follows place bytes value mode rest → IsStretch (step_of place) mode rest count → Follows place bytes (value ++ take count rest) mode (drop count rest)
goes_past_bytes {value = value} zero rest follows stretch = rw (append-nil value) follows
goes_past_bytes (suc count) [] follows stretch = absurd (omega (arith, stretch.within))
goes_past_bytes {place} {bytes} {value} {mode} (suc count) (b ∷ rest) follows stretch =
    let one : Follows place bytes (value ++ b ∷ []) mode rest = goes_past_byte {more = 0} {b = b} follows (sym (stretch.each 0 (omega arith))) (omega arith) refl refl in
    let others : IsStretch (step_of place) mode rest count = record { within = omega (arith, stretch.within); each = λ k below. stretch.each (suc k) (omega arith) } in
    rw (← append_assoc value (b ∷ []) (take count rest)) (goes_past_bytes count rest one others)

pub goes_past_stretch : {place : Place} {bytes value items plain : List ℕ} {mode : Mode} {rest following : List ℕ} {count : ℕ} →
    Follows place bytes value mode rest → IsStretch (step_of place) mode rest count →
    items ≡ value ++ plain → plain ≡ take count rest → following ≡ drop count rest → Follows place bytes items mode following
goes_past_stretch {rest = rest} {count = count} follows stretch added taken dropped = rw (added, taken, dropped) (goes_past_bytes count rest follows stretch)
