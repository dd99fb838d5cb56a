-- What is put for a node, and for those behind it.
use Rattle.std.proofs.Common.{ℕ, ◌≡◌, ◌<◌, ◌+◌, List, [], ◌∷◌, ◌++◌, IsUtf8, Option, Some, None, Result, Ok, Err, refl, sym, ap, ◌∙◌, subst, append_assoc, append-nil, arith}
use Rattle.std.specs.List.{AllByRecursion}
use Rattle.hesc_sinks.proofs.Took.{TookBeginning-following, TookBeginning-front}
use Rattle.hesc_specs.specs.Text.Beginning.{TookBeginning}
use Rattle.html_template.specs.Templates.{Fill, Markup, page, written}
use Rattle.html_template.proofs.Joined.{joined_page, joined_utf8}
use Rattle.html_view.specs.Putting.{Leads, Put, PutBeginning, PutFront, Puts, PutsFront, both, markup_alone, text_alone}
use Rattle.html_view.specs.Data.{Datum, ItemList, Stack, item, look_up, no_items}
use Rattle.html_view.specs.Nodes as node
use Rattle.html_view.specs.Nodes.{Asked, Nodes, Opening, Placed}
use Rattle.html_view.specs.Rendered.{Unrolled, Unrolling, fragment_for, no_unrolling, put_front, put_markup, put_text, rendered, text_for, unrolled, unrolled_each, unrolled_section, unrolled_times}
use Rattle.html_view.specs.Unrolled.{chunk_of}
use Rattle.html_view.specs.Ways.{on_ok}
use Rattle.html_view.specs.declared.faults.ValueFault.{ValueFault}
use Rattle.html_view.specs.declared.node.Times.{Times}
use Rattle.html_view.specs.declared.node.Times.TheVariants.{Attributes, Each, Given, If, Once, Whether}
use Rattle.html_view.specs.declared.unroll.Refusal.{Refusal}
use Rattle.html_view.specs.declared.unroll.Stop.{Stop}
use Rattle.html_view.specs.declared.unroll.Stop.TheVariants.{Refused, Failed}
use Rattle.html_view.proofs.Unrolling.{found_in}

-- ---- a front before what follows

one_markup : (bytes : List ℕ) (told : Unrolled) → on_ok told (put_markup bytes) ≡ on_ok told (put_front (markup_alone bytes))
one_markup bytes (Ok rest) = refl
one_markup bytes (Err fault) = refl

one_text : (slot : Placed) (text : List ℕ) (told : Unrolled) → on_ok told (put_text slot text) ≡ on_ok told (put_front (text_alone slot text))
one_text slot text (Ok rest) = refl
one_text slot text (Err fault) = refl

pub markup_put : (bytes : List ℕ) (stack : Stack) (old new : List ℕ) → new ≡ old ++ bytes →
    PutFront (λ rest. unrolled (node.Markup bytes rest) stack) stack old new
markup_put bytes stack old new taken = record {
  front = markup_alone bytes;
  goes = λ rest. one_markup bytes (unrolled rest stack);
  leads = λ pieces texts. ap (λ x. x ++ page pieces texts) (sym (append-nil bytes));
  utf8 = tt;
  taken = taken ∙ ap (λ x. old ++ x) (sym (append-nil bytes));
}

pub text_put : (slot : Placed) (stack : Stack) (text : List ℕ) (old new : List ℕ) → text_for slot (look_up slot.asked.name stack) ≡ Ok text →
    IsUtf8 text → new ≡ old ++ written slot.place slot.kind text → PutFront (λ rest. unrolled (node.Slot slot rest) stack) stack old new
text_put slot stack text old new told utf8 taken = record {
  front = text_alone slot text;
  goes = λ rest. rw told (one_text slot text (unrolled rest stack));
  leads = λ pieces texts. ap (λ x. x ++ page pieces texts) (sym (append-nil (written slot.place slot.kind text)));
  utf8 = (utf8, tt);
  taken = taken ∙ ap (λ x. old ++ x) (sym (append-nil (written slot.place slot.kind text)));
}

pub fragment_put : (slot : Asked) (stack : Stack) (markup : List ℕ) (old new : List ℕ) → fragment_for slot (look_up slot.name stack) ≡ Ok markup →
    new ≡ old ++ markup → PutFront (λ rest. unrolled (node.Fragment slot rest) stack) stack old new
fragment_put slot stack markup old new told taken =
    let put = markup_put markup stack old new taken in
    record { front = put.front; goes = λ rest. rw told (put.goes rest); leads = put.leads; utf8 = put.utf8; taken = put.taken }

-- ---- a beginning of what comes first is one of the page

pub markup_begun : (bytes : List ℕ) (stack : Stack) (old new : List ℕ) → TookBeginning old new bytes → (rest : Nodes Placed) →
    PutBeginning (unrolled (node.Markup bytes rest) stack) old new
markup_begun bytes stack old new took rest found told =
    let more = found_in (unrolled rest stack) (put_markup bytes) found told in
    let goes : Ok (record { pieces = Markup bytes ∷ more.value.pieces; texts = more.value.texts }) ≡ Ok found = more.goes in
    let same : record { pieces = Markup bytes ∷ more.value.pieces; texts = more.value.texts } ≡ found = cc in
    subst (λ f. TookBeginning old new (rendered f)) same (TookBeginning-front old new bytes (page more.value.pieces more.value.texts) took)

pub text_begun : (slot : Placed) (stack : Stack) (text : List ℕ) (old new : List ℕ) → text_for slot (look_up slot.asked.name stack) ≡ Ok text →
    TookBeginning old new (written slot.place slot.kind text) → (rest : Nodes Placed) →
    PutBeginning (unrolled (node.Slot slot rest) stack) old new
text_begun slot stack text old new is took rest found told =
    let one = found_in (text_for slot (look_up slot.asked.name stack)) (λ text. on_ok (unrolled rest stack) (put_text slot text)) found told in
    let more = found_in (unrolled rest stack) (put_text slot one.value) found one.goes in
    let first : text_for slot (look_up slot.asked.name stack) ≡ Ok one.value = one.is in
    let alike : text ≡ one.value = cc in
    let goes : Ok (record { pieces = chunk_of slot ∷ more.value.pieces; texts = one.value ∷ more.value.texts }) ≡ Ok found = more.goes in
    let same : record { pieces = chunk_of slot ∷ more.value.pieces; texts = one.value ∷ more.value.texts } ≡ found = cc in
    subst (λ f. TookBeginning old new (rendered f)) same
    (TookBeginning-front old new (written slot.place slot.kind one.value) (page more.value.pieces more.value.texts)
    (subst (λ t. TookBeginning old new (written slot.place slot.kind t)) alike took))

pub fragment_begun : (slot : Asked) (stack : Stack) (markup : List ℕ) (old new : List ℕ) → fragment_for slot (look_up slot.name stack) ≡ Ok markup →
    TookBeginning old new markup → (rest : Nodes Placed) → PutBeginning (unrolled (node.Fragment slot rest) stack) old new
fragment_begun slot stack markup old new is took rest found told =
    let one = found_in (fragment_for slot (look_up slot.name stack)) (λ bytes. on_ok (unrolled rest stack) (put_markup bytes)) found told in
    let first : fragment_for slot (look_up slot.name stack) ≡ Ok one.value = one.is in
    let alike : markup ≡ one.value = cc in
    markup_begun one.value stack old new (subst (TookBeginning old new) alike took) rest found one.goes

-- of two fronts, where the first is begun
both_begun : (old new : List ℕ) (first second found : Unrolling) → Fill first.pieces first.texts → put_front first second ≡ Ok found →
    TookBeginning old new (rendered first) → TookBeginning old new (rendered found)
both_begun old new first second found full goes took =
    let told : Ok (both first second) ≡ Ok found = goes in
    let same : both first second ≡ found = cc in
    subst (λ f. TookBeginning old new (rendered f)) same
    (subst (TookBeginning old new) (sym (joined_page first.pieces second.pieces first.texts second.texts full))
    (TookBeginning-front old new (rendered first) (rendered second) took))

-- and where the first was put, and the second is begun
next_begun : (old middle new : List ℕ) (first second found : Unrolling) → Leads first → put_front first second ≡ Ok found →
    middle ≡ old ++ rendered first → TookBeginning middle new (rendered second) → TookBeginning old new (rendered found)
next_begun old middle new first second found leads goes taken took =
    let told : Ok (both first second) ≡ Ok found = goes in
    let same : both first second ≡ found = cc in
    subst (λ f. TookBeginning old new (rendered f)) same
    (subst (TookBeginning old new) (sym (leads second.pieces second.texts))
    (TookBeginning-following old middle new (rendered first) (rendered second) taken took))

section_goes : (told : Unrolled) (found : Unrolling) (stack : Stack) → told ≡ Ok found → (rest : Nodes Placed) →
    on_ok told (λ front. on_ok (unrolled rest stack) (put_front front)) ≡ on_ok (unrolled rest stack) (put_front found)
section_goes told found stack is rest = rw is refl

pub section_put : {F : Type 0} (told : Unrolled) (stack : Stack) (old new : List ℕ) (refusal : Refusal) (result : Result (Unit {0}) (Stop F)) →
    ((found : Unrolling) → told ≡ Ok found → Fill found.pieces found.texts) → Puts told old new refusal result →
    PutsFront (λ rest. on_ok told (λ front. on_ok (unrolled rest stack) (put_front front))) stack old new refusal result
section_put told stack old new refusal (Ok done) full puts = record {
  front = puts.found;
  goes = section_goes told puts.found stack puts.same;
  leads = puts.leads;
  utf8 = puts.utf8;
  taken = puts.taken;
}
section_put told stack old new refusal (Err Refused) full puts = λ rest. rw puts refl
section_put told stack old new refusal (Err (Failed fault)) full puts = λ rest found is.
    let one = found_in told (λ front. on_ok (unrolled rest stack) (put_front front)) found is in
    let more = found_in (unrolled rest stack) (put_front one.value) found one.goes in
    both_begun old new one.value more.value found (full one.value one.is) more.goes (puts one.value one.is)

-- ---- so far a front was put
pub record IsSoFar (told rest : Unrolled) (old new : List ℕ) : Type 0 where
  pub front : Unrolling
  pub goes : told ≡ on_ok rest (put_front front)
  pub leads : Leads front
  pub utf8 : AllByRecursion IsUtf8 front.texts
  pub taken : new ≡ old ++ rendered front

no_front : (told : Unrolled) → told ≡ on_ok told (put_front no_unrolling)
no_front (Ok found) = refl
no_front (Err fault) = refl

both_put : (first second : Unrolling) (told : Unrolled) → on_ok (on_ok told (put_front second)) (put_front first) ≡ on_ok told (put_front (both first second))
both_put first second (Ok rest) =
    ap (λ p. Ok (record { pieces = p; texts = first.texts ++ (second.texts ++ rest.texts) })) (sym (append_assoc first.pieces second.pieces rest.pieces))
    ∙ ap (λ t. Ok (record { pieces = (first.pieces ++ second.pieces) ++ rest.pieces; texts = t })) (sym (append_assoc first.texts second.texts rest.texts))
both_put first second (Err fault) = refl

both_lead : (first second : Unrolling) → Leads first → Leads second → Leads (both first second)
both_lead first second one two = λ pieces texts.
    ap (λ x. page x ((first.texts ++ second.texts) ++ texts)) (append_assoc first.pieces second.pieces pieces)
    ∙ ap (λ x. page (first.pieces ++ (second.pieces ++ pieces)) x) (append_assoc first.texts second.texts texts)
    ∙ one (second.pieces ++ pieces) (second.texts ++ texts)
    ∙ ap (λ x. rendered first ++ x) (two pieces texts)
    ∙ sym (append_assoc (rendered first) (rendered second) (page pieces texts))
    ∙ ap (λ x. x ++ page pieces texts) (sym (one second.pieces second.texts))

both_taken : (old middle new : List ℕ) (first second : Unrolling) → Leads first → middle ≡ old ++ rendered first → new ≡ middle ++ rendered second →
    new ≡ old ++ rendered (both first second)
both_taken old middle new first second leads one two =
    two ∙ ap (λ m. m ++ rendered second) one ∙ append_assoc old (rendered first) (rendered second)
    ∙ ap (λ x. old ++ x) (sym (leads second.pieces second.texts))

pub none_yet : (told : Unrolled) (old : List ℕ) → IsSoFar told told old old
none_yet told old = record { front = no_unrolling; goes = no_front told; leads = λ pieces texts. refl; utf8 = tt; taken = sym (append-nil old) }

-- a node more
pub one_more : (told : Unrolled) (later : Nodes Placed → Unrolled) (rest : Nodes Placed) (stack : Stack) (old middle new : List ℕ) →
    IsSoFar told (later rest) old middle → PutFront later stack middle new → IsSoFar told (unrolled rest stack) old new
one_more told later rest stack old middle new so_far put = record {
  front = both so_far.front put.front;
  goes = so_far.goes ∙ ap (λ x. on_ok x (put_front so_far.front)) (put.goes rest) ∙ both_put so_far.front put.front (unrolled rest stack);
  leads = both_lead so_far.front put.front so_far.leads put.leads;
  utf8 = joined_utf8 so_far.front.texts put.front.texts so_far.utf8 put.utf8;
  taken = both_taken old middle new so_far.front put.front so_far.leads so_far.taken put.taken;
}

-- a pass more
pub pass_more : (told one rest : Unrolled) (old middle new : List ℕ) →
    IsSoFar told (on_ok one (λ front. on_ok rest (put_front front))) old middle → Put one middle new → IsSoFar told rest old new
pass_more told one rest old middle new so_far put = record {
  front = both so_far.front put.found;
  goes = so_far.goes
      ∙ ap (λ x. on_ok (on_ok x (λ front. on_ok rest (put_front front))) (put_front so_far.front)) put.same
      ∙ both_put so_far.front put.found rest;
  leads = both_lead so_far.front put.found so_far.leads put.leads;
  utf8 = joined_utf8 so_far.front.texts put.found.texts so_far.utf8 put.utf8;
  taken = both_taken old middle new so_far.front put.found so_far.leads so_far.taken put.taken;
}

-- all is put
pub all_put : (told : Unrolled) (old new : List ℕ) → IsSoFar told (Ok no_unrolling) old new → Put told old new
all_put told old new so_far = record {
  found = so_far.front;
  same = so_far.goes ∙ ap (λ p. Ok (record { pieces = p; texts = so_far.front.texts ++ [] })) (append-nil so_far.front.pieces)
      ∙ ap (λ t. Ok (record { pieces = so_far.front.pieces; texts = t })) (append-nil so_far.front.texts);
  leads = so_far.leads;
  utf8 = so_far.utf8;
  taken = so_far.taken;
}

-- a stop behind a front
pub stop_behind : {F : Type 0} (told : Unrolled) (later : Nodes Placed → Unrolled) (rest : Nodes Placed) (stack : Stack) (old middle new : List ℕ)
    (refusal : Refusal) (stop : Stop F) → IsSoFar told (later rest) old middle →
    PutsFront {T = Unit {0}} later stack middle new refusal (Err stop) → Puts {T = Unit {0}} told old new refusal (Err stop)
stop_behind told later rest stack old middle new refusal Refused so_far puts =
    so_far.goes ∙ ap (λ x. on_ok x (put_front so_far.front)) (puts rest)
stop_behind told later rest stack old middle new refusal (Failed fault) so_far puts = λ found is.
    let more = found_in (later rest) (put_front so_far.front) found (sym so_far.goes ∙ is) in
    next_begun old middle new so_far.front more.value found so_far.leads more.goes so_far.taken (puts rest more.value more.is)

pub stop_in_pass : {F : Type 0} (told one rest : Unrolled) (old middle new : List ℕ) (refusal : Refusal) (stop : Stop F) →
    ((found : Unrolling) → one ≡ Ok found → Fill found.pieces found.texts) →
    IsSoFar told (on_ok one (λ front. on_ok rest (put_front front))) old middle → Puts {T = Unit {0}} one middle new refusal (Err stop) →
    Puts {T = Unit {0}} told old new refusal (Err stop)
stop_in_pass told one rest old middle new refusal Refused full so_far puts =
    so_far.goes ∙ ap (λ x. on_ok (on_ok x (λ front. on_ok rest (put_front front))) (put_front so_far.front)) puts
stop_in_pass told one rest old middle new refusal (Failed fault) full so_far puts = λ found is.
    let all = found_in (on_ok one (λ front. on_ok rest (put_front front))) (put_front so_far.front) found (sym so_far.goes ∙ is) in
    let first = found_in one (λ front. on_ok rest (put_front front)) all.value all.is in
    let more = found_in rest (put_front first.value) all.value first.goes in
    next_begun old middle new so_far.front all.value found so_far.leads all.goes so_far.taken
    (both_begun middle new first.value more.value all.value (full first.value first.is) more.goes (puts first.value first.is))

-- ---- sections

-- once is as often as a pass and no more
once_told : (told : Unrolled) → on_ok told (λ front. on_ok (Ok no_unrolling) (put_front front)) ≡ told
once_told (Ok found) =
    ap (λ p. Ok (record { pieces = p; texts = found.texts ++ [] })) (append-nil found.pieces)
    ∙ ap (λ t. Ok (record { pieces = found.pieces; texts = t })) (append-nil found.texts)
once_told (Err fault) = refl

pub stands_once : (opening : Opening) (times : Times) (body : Stack → Unrolled) (stack : Stack) → unrolled_times opening times body stack [] ≡ body stack
stands_once opening Each body stack = once_told (body stack)
stands_once opening Once body stack = refl
stands_once opening If body stack = refl
stands_once opening Whether body stack = refl
stands_once opening Given body stack = refl
stands_once opening Attributes body stack = refl

-- what a section is, by how its body stands, where its value is not refused
pub never_told : (opening : Opening) (refused : Option ValueFault) (body : Stack → Unrolled) (otherwise : Unrolled) (told : List Stack) →
    refused ≡ None → told ≡ [] → unrolled_section opening refused body otherwise told ≡ otherwise
never_told opening None body otherwise told none is = ap (λ t. unrolled_section opening None body otherwise t) is
never_told opening (Some why) body otherwise told none is = absurd (cc)

pub stands_told : (opening : Opening) (refused : Option ValueFault) (body : Stack → Unrolled) (otherwise : Unrolled) (told : List Stack) (inner : Stack) →
    refused ≡ None → told ≡ inner ∷ [] → unrolled_section opening refused body otherwise told ≡ body inner
stands_told opening None body otherwise told inner none is =
    ap (λ t. unrolled_section opening None body otherwise t) is ∙ stands_once opening opening.times body inner
stands_told opening (Some why) body otherwise told inner none is = absurd (cc)

pub each_told : (opening : Opening) (refused : Option ValueFault) (body : Stack → Unrolled) (otherwise : Unrolled) (told items : List Stack) (first : Stack)
    (more : List Stack) → refused ≡ None → opening.times ≡ Each → told ≡ first ∷ more → told ≡ items →
    unrolled_section opening refused body otherwise told ≡ unrolled_each body items
each_told opening None body otherwise told items first more none times some is =
    ap (λ t. unrolled_section opening None body otherwise t) some
    ∙ ap (λ t. unrolled_times opening t body first more) times
    ∙ ap (unrolled_each body) (sym some ∙ is)
each_told opening (Some why) body otherwise told items first more none times some is = absurd (cc)

pub front_same : {F : Type 0} (told again : Nodes Placed → Unrolled) (stack : Stack) (old new : List ℕ) (refusal : Refusal)
    (result : Result (Unit {0}) (Stop F)) → ((rest : Nodes Placed) → again rest ≡ told rest) → PutsFront told stack old new refusal result →
    PutsFront again stack old new refusal result
front_same told again stack old new refusal (Ok done) same puts =
    record { front = puts.front; goes = λ rest. same rest ∙ puts.goes rest; leads = puts.leads; utf8 = puts.utf8; taken = puts.taken }
front_same told again stack old new refusal (Err Refused) same puts = λ rest. same rest ∙ puts rest
front_same told again stack old new refusal (Err (Failed fault)) same puts = λ rest found is. puts rest found (sym (same rest) ∙ is)

pub same_told : {F : Type 0} (told again : Unrolled) (old new : List ℕ) (refusal : Refusal) (result : Result (Unit {0}) (Stop F)) → again ≡ told →
    Puts told old new refusal result → Puts again old new refusal result
same_told told again old new refusal result same puts = subst (λ t. Puts t old new refusal result) (sym same) puts

-- how many items there are
abbrev pub item_count : ItemList → ℕ
item_count no_items = 0
item_count (item value items) = 1 + item_count items

pub fewer : (all others : ItemList) (value : Datum) → all ≡ item value others → item_count others < item_count all
fewer all others value is = subst (λ i. item_count others < item_count i) (sym is) (omega arith)
