-- What is put of the JSON of data, one text after the other.
use Rattle.std.proofs.Common.{ℕ, ◌≡◌, ◌+◌, List, [], ◌++◌, IsUtf8, Option, Some, None, Result, Ok, Err, refl, sym, ap, ◌∙◌, subst, append_assoc, append-nil}
use Rattle.std.proofs.lemmas.List.Concat.{flat_map-append}
use Rattle.std.proofs.lemmas.Str.{IsUtf8-append, IsUtf8-nil}
use Rattle.hesc_sinks.proofs.Took.{TookBeginning-following, TookBeginning-front}
use Rattle.hesc_specs.specs.Text.Beginning.{TookBeginning}
use Rattle.html_json.specs.Encoding.{json_encoding, json_image}
use Rattle.html_view.specs.Data.{Datum, Fields, Flag, Fragment, ItemList, Items, Nothing, Number, Record, Text, bare, field, item, no_items}
use Rattle.html_view.specs.PuttingJson.{PutJson, PutsJson}
use Rattle.html_view.specs.declared.unroll.Stop.{Stop}
use Rattle.html_view.specs.declared.unroll.Stop.TheVariants.{Failed, Refused}
use Rattle.html_view.proofs.JsonTexts.{followed}

-- ---- one text

pub text_put : (text old new : List ℕ) → IsUtf8 text → new ≡ old ++ json_encoding text → PutJson (Some text) old new
text_put text old new utf8 taken = record { text = text; same = refl; utf8 = utf8; taken = taken }

pub text_begun : (text old new : List ℕ) → TookBeginning old new (json_encoding text) → (other : List ℕ) → Some text ≡ Some other →
    TookBeginning old new (json_encoding other)
text_begun text old new took other is = let same : text ≡ other = cc in subst (λ t. TookBeginning old new (json_encoding t)) same took

-- the same is told
pub json_same : {F : Type 0} (told again : Option (List ℕ)) (old new : List ℕ) (result : Result (Unit {0}) (Stop F)) → again ≡ told →
    PutsJson told old new result → PutsJson again old new result
json_same told again old new result same puts = subst (λ t. PutsJson t old new result) (sym same) puts

-- ---- so far a text was put

abbrev pub behind : List ℕ → Option (List ℕ) → Option (List ℕ)
behind done later = followed (Some done) later

pub record IsJsonSoFar (told later : Option (List ℕ)) (old new : List ℕ) : Type 0 where
  pub done : List ℕ
  pub goes : told ≡ behind done later
  pub utf8 : IsUtf8 done
  pub taken : new ≡ old ++ json_encoding done

encoding-append : (first later : List ℕ) → json_encoding (first ++ later) ≡ json_encoding first ++ json_encoding later
encoding-append first later = flat_map-append json_image first later

behind_none : (later : Option (List ℕ)) → later ≡ behind [] later
behind_none None = refl
behind_none (Some text) = refl

behind_both : (done first : List ℕ) (later : Option (List ℕ)) → behind done (behind first later) ≡ behind (done ++ first) later
behind_both done first None = refl
behind_both done first (Some text) = ap Some (sym (append_assoc done first text))

taken_both : (old middle new first later : List ℕ) → middle ≡ old ++ json_encoding first → new ≡ middle ++ json_encoding later →
    new ≡ old ++ json_encoding (first ++ later)
taken_both old middle new first later one two =
    two ∙ ap (λ m. m ++ json_encoding later) one ∙ append_assoc old (json_encoding first) (json_encoding later)
    ∙ ap (λ l. old ++ l) (sym (encoding-append first later))

pub no_json_yet : {told : Option (List ℕ)} {old : List ℕ} → IsJsonSoFar told told old old
no_json_yet {told} {old} = record { done = []; goes = behind_none told; utf8 = IsUtf8-nil; taken = sym (append-nil old) }

-- a text more
pub json_more : {told whole first later : Option (List ℕ)} {old middle new : List ℕ} → IsJsonSoFar told whole old middle → whole ≡ followed first later →
    PutJson first middle new → IsJsonSoFar told later old new
json_more {told} {whole} {first} {later} {old} {middle} {new} so_far splits put = record {
  done = so_far.done ++ put.text;
  goes = so_far.goes ∙ ap (behind so_far.done) (splits ∙ ap (λ f. followed f later) put.same) ∙ behind_both so_far.done put.text later;
  utf8 = IsUtf8-append so_far.done put.text so_far.utf8 put.utf8;
  taken = taken_both old middle new so_far.done put.text so_far.taken put.taken;
}

-- ---- where it stops

record Splits (first later : Option (List ℕ)) (text : List ℕ) : Type 0 where
  front : List ℕ
  rest : List ℕ
  is : first ≡ Some front
  same : front ++ rest ≡ text

splits_in : (first later : Option (List ℕ)) (text : List ℕ) → followed first later ≡ Some text → Splits first later text
splits_in None later text told = absurd (cc)
splits_in (Some front) None text told = absurd (cc)
splits_in (Some front) (Some rest) text told = let same : front ++ rest ≡ text = cc in record { front = front; rest = rest; is = refl; same = same }

record Ends (done : List ℕ) (later : Option (List ℕ)) (text : List ℕ) : Type 0 where
  rest : List ℕ
  is : later ≡ Some rest
  same : done ++ rest ≡ text

ends_in : (done : List ℕ) (later : Option (List ℕ)) (text : List ℕ) → behind done later ≡ Some text → Ends done later text
ends_in done None text told = absurd (cc)
ends_in done (Some rest) text told = let same : done ++ rest ≡ text = cc in record { rest = rest; is = refl; same = same }

none_behind : (done : List ℕ) (first later : Option (List ℕ)) → first ≡ None → behind done (followed first later) ≡ None
none_behind done first later none = ap (λ f. behind done (followed f later)) none

pub json_stop : {F : Type 0} (told whole first later : Option (List ℕ)) (old middle new : List ℕ) (stop : Stop F) → IsJsonSoFar told whole old middle →
    whole ≡ followed first later → PutsJson {T = Unit {0}} first middle new (Err stop) → PutsJson {T = Unit {0}} told old new (Err stop)
json_stop told whole first later old middle new Refused so_far splits none =
    so_far.goes ∙ ap (behind so_far.done) splits ∙ none_behind so_far.done first later none
json_stop told whole first later old middle new (Failed fault) so_far splits began = λ text is.
    let all = ends_in so_far.done whole text (sym so_far.goes ∙ is) in
    let parts = splits_in first later all.rest (sym splits ∙ all.is) in
    let took = began parts.front parts.is in
    subst (λ t. TookBeginning old new (json_encoding t)) all.same
    (subst (TookBeginning old new) (sym (encoding-append so_far.done all.rest))
    (TookBeginning-following old middle new (json_encoding so_far.done) (json_encoding all.rest) so_far.taken
    (subst (λ t. TookBeginning middle new (json_encoding t)) parts.same
    (subst (TookBeginning middle new) (sym (encoding-append parts.front parts.rest))
    (TookBeginning-front middle new (json_encoding parts.front) (json_encoding parts.rest) took)))))

alone : (whole : Option (List ℕ)) → followed whole (Some []) ≡ whole
alone None = refl
alone (Some text) = ap Some (append-nil text)

put_last : (told whole : Option (List ℕ)) (old middle new : List ℕ) → IsJsonSoFar told whole old middle → PutJson whole middle new → PutJson told old new
put_last told whole old middle new so_far put = record {
  text = so_far.done ++ put.text;
  same = so_far.goes ∙ ap (behind so_far.done) put.same;
  utf8 = IsUtf8-append so_far.done put.text so_far.utf8 put.utf8;
  taken = taken_both old middle new so_far.done put.text so_far.taken put.taken;
}

-- and the last one
pub json_last : {F : Type 0} (told whole last : Option (List ℕ)) (old middle new : List ℕ) (result : Result (Unit {0}) (Stop F)) →
    IsJsonSoFar told whole old middle → whole ≡ last → PutsJson last middle new result → PutsJson told old new result
json_last told whole last old middle new (Ok done) so_far is put =
    put_last told last old middle new (subst (λ w. IsJsonSoFar told w old middle) is so_far) put
json_last told whole last old middle new (Err stop) so_far is puts =
    json_stop told whole last (Some []) old middle new stop so_far (is ∙ sym (alone last)) puts

-- ---- how much there is to put

abbrev mutual
  pub datum_size : Datum → ℕ
  datum_size Nothing = 0
  datum_size (Text text) = 0
  datum_size (Number text) = 0
  datum_size (Flag flag) = 0
  datum_size (Fragment markup whole) = 0
  datum_size (Items items) = 1 + items_size items
  datum_size (Record fields) = 1 + fields_size fields

  pub items_size : ItemList → ℕ
  items_size no_items = 0
  items_size (item value items) = 1 + (datum_size value + items_size items)

  pub fields_size : Fields → ℕ
  fields_size bare = 0
  fields_size (field name value fields) = 1 + (datum_size value + fields_size fields)
