-- A constant of rows of two texts, each a `&[u8]` and a `&str`, lent as a `&` to its table: by induction over the rows, so that a long table costs no more than its length.
-- The block holds the table, after it the bytes of each row's first text, the last row's first, and then the bytes of all second texts in one array.
use Rattle.std.proofs.Common.{ℕ, zero, ◌+◌, ◌-◌, ◌<◌, ◌^◌, ◌≡◌, List, [], ◌∷◌, Bool, true, false, ◌&&◌, refl, ap, ◌∙◌, arith}
use lib.Dec.{T, eqb, ltb, eqb_refl, eqb→eq, ltb→lt}
use mathlib.Core.Path.{subst}
use borrow.Author.Text.{valid}
use lib.ListN.{length, length-drop, take, drop as drop-list}
use lib.Seq.{length-take-le}
use seplogic.Ra.Ura.{Ura}
use base.Fml.{Fml, Lft, Share, fat, flent}
use base.Logic.{ent, ex, via, fst∗}
use mir.Syntax.{Ty, Tys, tnil, tcons, ty_array, ty_int, ty_ref, ty_struct, erased, imm, w8, w64, static, Const, Consts, cnil, ccons, c_ints, c_int, c_parts, c_here}
use mir.Val.{Val, const_val, const_vals, vptr}
use mir.Raw.{raw as raw_ty}
use prog.Memory.{size, align, up}
use types.Logic.{Logic, sem}
use types.Kit.{◌$◌, ◌∵◌, !, ‵, ◌⊛◌, raw, some, later, await, qed, move, drop, use1, use2, split, pick, rewrite, updating, now, show, done}
use prog.Model.{fields_at}
use denote.RattleType.{RattleType}
use denote.Lend.{lends_free}
use denote.Memory.{lone, part_at, shared_of}
use denote.Plain.{UInt, uint_Makes, uint_row_laws}
use denote.Slice.{ShrSlice, slice_val, Room}
use denote.Text.{Str}
use denote.Array.{Array, Array-Makes, Array-row_laws, array_val}
use denote.Ref.{NamedLft, ShrRef}
use denote.Param.Laws.{field_told, of_copyable, of_field}
use denote.Param.Shared.{copy_shared}
use denote.Sharing.{nothing}
use denote.Struct.Declared as Declared
use denote.Struct.Field.{shr_slice_field, u8-field}
use denote.Struct.Laws.{shr_slice_copy, shr_slice_laws, u8-copy, u8-laws}
use denote.Struct.Struct as Struct
use denote.Struct.Tuple.{AllLaws, Tuple, parts_laws, tuple_type}
use denote.Text.{str-field, str-laws}
use borrow.Table.Elements.{at, at_byte}
use borrow.Table.Copies.{Cp, c_arr, c_rf, c_struct}
use borrow.Table.OneValue.{part_in_at}
use borrow.Table.Str.{str_copy, str_laws}
use borrow.Table.Referent.{f_int}
use borrow.Rule.Static.{all_fit, Stands-ints}
use borrow.Rule.StaticParts.{EachNames, Holds-Array, each_val, Valued, valued, pooled, pointing, all_val, Span, text_at, span_fits, span_val, Has, Has-here, Has-there, Holds, EachHolds, Holds-plain, Holds-slice, Holds-as, holds-struct, Holds-text, Laid, Laid-nil, Laid-cons}

-- a row: the bytes of its first text, and where its second lies among the bytes of all
abbrev pub Named : Type 0
Named = List ℕ × Span

abbrev pub Bytes : List ℕ → RattleType
Bytes ns = Array (UInt w8) (length ns)

abbrev pub Row : RattleType
Row = Tuple (ShrSlice static [] (UInt w8) ∷ Str static [] ∷ [])

abbrev pub bytes_type : List ℕ → Ty
bytes_type ns = ty_array (ty_int w8) (length ns)

-- where the bytes begin, after what ends at e, and where they end
abbrev pub start : ℕ → List ℕ → ℕ
start e ns = zero + up (align (bytes_type ns)) e

abbrev pub after : ℕ → List ℕ → ℕ
after e ns = up (align (bytes_type ns)) e + size (bytes_type ns)

-- the rows are from the last to the first, and `texts` has the bytes of their second texts
module _ (texts : List ℕ) where
  abbrev pub tys : List Named → Tys
  tys [] = tcons (bytes_type texts) tnil
  tys (r ∷ rs) = tcons (bytes_type r.0) (tys rs)

  abbrev pub consts : List Named → Consts
  consts [] = ccons (c_ints w8 texts) cnil
  consts (r ∷ rs) = ccons (c_ints w8 r.0) (consts rs)

  abbrev pub Names : List Named → Type 0
  Names [] = Unit {0} × Unit {0}
  Names (r ∷ rs) = Names rs × Unit {0}

  abbrev pub pool : ℕ → (rs : List Named) → ℕ → Names rs → Lft → Fml
  pool e [] = pooled (Bytes texts) (start e texts) (Unit {0}) (λ b n. nothing) (Unit {0}) (λ b n m. texts)
  pool e (r ∷ rs) = pooled (Bytes r.0) (start e r.0) (Names rs) (pool (after e r.0) rs) (Unit {0}) (λ b n m. r.0)

  -- where the second texts begin
  abbrev pub texts_start : ℕ → List Named → ℕ
  texts_start e [] = start e texts
  texts_start e (r ∷ rs) = texts_start (after e r.0) rs

  abbrev pub bytes_fit : List Named → Bool
  bytes_fit [] = all_fit w8 texts
  bytes_fit (r ∷ rs) = all_fit w8 r.0 && bytes_fit rs

  abbrev pub name_fits : List ℕ → Bool
  name_fits ns = eqb (length (take (length ns) (drop-list 0 ns))) (length ns) && ltb (length ns) (2 ^ 63)

  -- a second text lies within the bytes, which are `total` in all
  abbrev pub span_lies : ℕ → Span → Bool
  span_lies total span = ltb (span.0 + span.1) (total + 1) && (ltb span.1 (2 ^ 63) && valid (text_at texts span))

  abbrev pub rows_fit : ℕ → List Named → Bool
  rows_fit total [] = true
  rows_fit total (r ∷ rs) = name_fits r.0 && (span_lies total r.1 && rows_fit total rs)

  -- a row's constant and value, where the second texts begin at o and its first at e
  abbrev pub row_const : ℕ → ℕ → Named → Const
  row_const o e r = c_parts (ccons (c_parts (ccons (c_here e) (ccons (c_int w64 (length r.0)) cnil))) (ccons (c_parts (ccons (c_here (o + r.1.0)) (ccons (c_int w64 r.1.1) cnil))) cnil))

  -- the table's rows, from the first to the last, before those that come later
  abbrev pub row_consts : ℕ → ℕ → List Named → Consts → Consts
  row_consts o e [] cs = cs
  row_consts o e (r ∷ rs) cs = row_consts o (after e r.0) rs (ccons (row_const o (start e r.0) r) cs)

  abbrev pub row_valued : ℕ → ℕ → ℕ → Named → Valued Row
  row_valued b o e r = valued Row (Unit {0} × (Unit {0} × Unit {0})) (λ m. (pointing b e (take (length r.0) (drop-list 0 r.0)), pointing b (o + r.1.0) (text_at texts r.1)))

  -- the rows of the table, from the first to the last, before those that come later
  abbrev pub row_vals : ℕ → ℕ → ℕ → List Named → List Val → List Val
  row_vals b o e [] vs = vs
  row_vals b o e (r ∷ rs) vs = row_vals b o (after e r.0) rs (const_val b (row_const o (start e r.0) r) ∷ vs)

  abbrev pub row_valueds : ℕ → ℕ → ℕ → List Named → List (Valued Row) → List (Valued Row)
  row_valueds b o e [] ys = ys
  row_valueds b o e (r ∷ rs) ys = row_valueds b o (after e r.0) rs (row_valued b o (start e r.0) r ∷ ys)

first : (a b : Bool) → T (a && b) → T a
first true b t = tt
first false b t = absurd t

second : (a b : Bool) → T (a && b) → T b
second true b t = t
second false b t = absurd t

equal : (m n : ℕ) → m ≡ n → T (eqb m n)
equal m n e = subst (λ (k : ℕ). T (eqb m k)) e (eqb_refl m)

all_of : (a b c d : Bool) → T a → T b → T c → T d → T (a && (b && (c && d)))
all_of true true true true p q r s = tt
all_of false b c d p q r s = absurd p
all_of true false c d p q r s = absurd q
all_of true true false d p q r s = absurd r
all_of true true true false p q r s = absurd s

span_ok : (texts : List ℕ) (total : ℕ) → length texts ≡ total → (span : Span) → T (span_lies texts total span) → T (span_fits texts span)
span_ok texts total is span lies =
    let within = ltb→lt (span.0 + span.1) (total + 1) (first _ (ltb span.1 (2 ^ 63) && valid (text_at texts span)) lies) in
    let rest = second (ltb (span.0 + span.1) (total + 1)) _ lies in
    let begins : length (take span.0 texts) ≡ span.0 = length-take-le span.0 texts (omega (arith, is)) in
    let left : length (drop-list span.0 texts) ≡ total - span.0 = length-drop span.0 texts ∙ ap (λ (k : ℕ). k - span.0) is in
    let text : length (text_at texts span) ≡ span.1 = length-take-le span.1 (drop-list span.0 texts) (omega (arith, left)) in
    all_of _ _ (ltb span.1 (2 ^ 63)) (valid (text_at texts span)) (equal _ _ begins) (equal _ _ text) (first _ (valid (text_at texts span)) rest) (second (ltb span.1 (2 ^ 63)) _ rest)

at_start : (e : ℕ) → at e 1 0 ≡ e
at_start e = at_byte e 0 ∙ omega arith

room : (k : ℕ) → k < 2 ^ 63 → Room (UInt w8) k
room k below = (omega arith, omega arith)

module _ {M : Type 1} {𝓤 : Ura M} (𝓛 : Logic 𝓤) where
  bytes_hold : (p : Lft → Fml) (ns : List ℕ) → T (all_fit w8 ns) → (b : ℕ) → Holds 𝓛 p (Bytes ns) (const_val b (c_ints w8 ns)) (valued (Bytes ns) (Unit {0}) (λ m. ns))
  bytes_hold p ns fit b = Holds-plain 𝓛 p (Bytes ns) (Array-Makes 𝓛 (UInt w8) (uint_Makes 𝓛 w8) (length ns)) ns (const_val b (c_ints w8 ns)) (Stands-ints w8 (length ns) ns fit refl b)

  bytes_laid : (ns : List ℕ) → T (all_fit w8 ns) → (τs : Tys) (e : ℕ) (cs : Consts) (N : Type 0) (p : ℕ → N → Lft → Fml) → Laid 𝓛 τs (after e ns) cs N p
      → Laid 𝓛 (tcons (bytes_type ns) τs) e (ccons (c_ints w8 ns) cs) (N × Unit {0}) (pooled (Bytes ns) (start e ns) N p (Unit {0}) (λ b n m. ns))
  bytes_laid ns fit τs e cs N p rest =
      Laid-cons 𝓛 (Bytes ns) refl (Array-row_laws (UInt w8) (uint_row_laws w8) (length ns)) (c_arr (UInt w8) (c_rf (f_int w8)) (length ns)) (bytes_type ns) refl τs e (start e ns) (c_ints w8 ns) cs N p (Unit {0}) (λ b n m. ns) refl rest
      (λ b n. bytes_hold (p b n) ns fit b)

  module _ (texts : List ℕ) (total : ℕ) (all : length texts ≡ total) where
    pub laid : (e : ℕ) (rs : List Named) → T (bytes_fit texts rs) → Laid 𝓛 (tys texts rs) e (consts texts rs) (Names texts rs) (pool texts e rs)
    laid e [] fit = bytes_laid texts fit tnil e cnil (Unit {0}) (λ b n. nothing) (Laid-nil 𝓛 (after e texts))
    laid e (r ∷ rs) fit =
        bytes_laid r.0 (first (all_fit w8 r.0) (bytes_fit texts rs) fit) (tys texts rs) e (consts texts rs) (Names texts rs) (pool texts (after e r.0) rs)
        (laid (after e r.0) rs (second (all_fit w8 r.0) (bytes_fit texts rs) fit))

    texts_there : (e : ℕ) (rs : List Named) (b : ℕ) (n : Names texts rs) → Has 𝓛 (pool texts e rs b n) (shared_of (Bytes texts) texts b (texts_start texts e rs))
    texts_there e [] b n = Has-here 𝓛 (shared_of (Bytes texts) texts b (start e texts)) nothing
    texts_there e (r ∷ rs) b n =
        Has-there 𝓛 (shared_of (Bytes r.0) r.0 b (start e r.0)) (pool texts (after e r.0) rs b n.0) (shared_of (Bytes texts) texts b (texts_start texts (after e r.0) rs)) (texts_there (after e r.0) rs b n.0)

    row_holds : (p : Lft → Fml) (b o e : ℕ) (r : Named) → Has 𝓛 p (shared_of (Bytes r.0) r.0 b e) → Has 𝓛 p (shared_of (Bytes texts) texts b o) → T (name_fits texts r.0) → T (span_fits texts r.1)
        → Holds 𝓛 p Row (const_val b (row_const texts o e r)) (row_valued texts b o e r)
    row_holds p b o e r has has_texts fit text_fit =
        let y₁ : Valued (ShrSlice static [] (UInt w8)) = valued (ShrSlice static [] (UInt w8)) (Unit {0}) (λ m. pointing b e (take (length r.0) (drop-list 0 r.0))) in
        let y₂ : Valued (Str static []) = valued (Str static []) (Unit {0}) (λ m. pointing b (o + r.1.0) (text_at texts r.1)) in
        let S = Declared.shape (tuple_type (ShrSlice static [] (UInt w8) ∷ Str static [] ∷ [])) in
        Holds-as 𝓛 p (Struct.Struct S) Row (const_val b (row_const texts o e r))
        (valued (Struct.Struct S) (Unit {0} × (Unit {0} × Unit {0})) (all_val (ShrSlice static [] (UInt w8) ∷ Str static [] ∷ []) (y₁, (y₂, tt))))
        (λ m. (pointing b e (take (length r.0) (drop-list 0 r.0)), pointing b (o + r.1.0) (text_at texts r.1))) (λ it. refl)
        (holds-struct 𝓛 p S (slice_val (b, e) (length r.0) ∷ span_val b o r.1 ∷ []) (y₁, (y₂, tt)) (
          Holds-slice 𝓛 p static [] (UInt w8) (uint_row_laws w8) (length r.0) r.0 b e 0 (length r.0) e has (at_start e) (eqb→eq _ (length r.0) (first _ (ltb (length r.0) (2 ^ 63)) fit))
              (room (length r.0) (ltb→lt (length r.0) (2 ^ 63) (second (eqb (length (take (length r.0) (drop-list 0 r.0))) (length r.0)) _ fit))),
          (Holds-text 𝓛 p static [] (length texts) texts b o r.1 has_texts text_fit, tt),
        ) refl)

    each_row_holds : (p : Lft → Fml) (b o e : ℕ) (rs : List Named) (n : Names texts rs) → ((s : Lft → Fml) → Has 𝓛 (pool texts e rs b n) s → Has 𝓛 p s) → Has 𝓛 p (shared_of (Bytes texts) texts b o) → T (rows_fit texts total rs)
        → (vs : List Val) (ys : List (Valued Row)) → EachHolds 𝓛 p Row vs ys → EachHolds 𝓛 p Row (row_vals texts b o e rs vs) (row_valueds texts b o e rs ys)
    each_row_holds p b o e [] n lift has_texts fit vs ys after_it = after_it
    each_row_holds p b o e (r ∷ rs) n lift has_texts fit vs ys after_it =
        let s : Lft → Fml = shared_of (Bytes r.0) r.0 b (start e r.0) in
        let rest : T (span_lies texts total r.1 && rows_fit texts total rs) = second (name_fits texts r.0) _ fit in
        each_row_holds p b o (after e r.0) rs n.0 (λ t has. lift t (Has-there 𝓛 s (pool texts (after e r.0) rs b n.0) t has)) has_texts (second (span_lies texts total r.1) (rows_fit texts total rs) rest)
        (const_val b (row_const texts o (start e r.0) r) ∷ vs) (row_valued texts b o (start e r.0) r ∷ ys)
        (row_holds p b o (start e r.0) r (lift s (Has-here 𝓛 s (pool texts (after e r.0) rs b n.0))) has_texts (first (name_fits texts r.0) _ fit) (span_ok texts total all r.1 (first (span_lies texts total r.1) (rows_fit texts total rs) rest)), after_it)

    pub rows_hold : (b e : ℕ) (rs : List Named) (n : Names texts rs) → T (rows_fit texts total rs)
        → EachHolds 𝓛 (pool texts e rs b n) Row (row_vals texts b (texts_start texts e rs) e rs []) (row_valueds texts b (texts_start texts e rs) e rs [])
    rows_hold b e rs n fit = each_row_holds (pool texts e rs b n) b (texts_start texts e rs) e rs n (λ s has. has) (texts_there e rs b n) fit [] [] tt

-- a row is Copy
abbrev always : NamedLft
always = record { mir = static; lft = [] }

abbrev texts_of_row : List RattleType
texts_of_row = ShrSlice static [] (UInt w8) ∷ Str static [] ∷ []

abbrev row_laws : AllLaws texts_of_row
row_laws = (
  of_field (shr_slice_field always (u8-field).row tt) (shr_slice_laws always (u8-field).row tt) refl (copy_shared (shr_slice_field always (u8-field).row tt) (shr_slice_copy always (u8-field).row tt (of_field u8-field u8-laws refl (copy_shared u8-field u8-copy)).shr_laws)),
  (str_laws always, tt),
)

abbrev row_copy : Cp Row
row_copy = c_struct (tuple_type texts_of_row) (parts_laws texts_of_row row_laws (field_told (shr_slice_field always (u8-field).row tt) (shr_slice_laws always (u8-field).row tt), (field_told (str-field always) (str-laws always), tt)))
    (of_copyable (shr_slice_field always (u8-field).row tt) (shr_slice_copy always (u8-field).row tt (of_field u8-field u8-laws refl (copy_shared u8-field u8-copy)).shr_laws), (str_copy always, tt))

-- the table's type in the block, and the whole block's
abbrev text_type : Ty
text_type = ty_struct (38 ∷ 91 ∷ 93 ∷ []) (tcons (ty_ref erased imm (ty_int w8)) (tcons (ty_int w64) tnil))

abbrev pub table_type : ℕ → Ty
table_type n = ty_array (ty_struct (40 ∷ 44 ∷ 41 ∷ []) (tcons text_type (tcons text_type tnil))) n

abbrev pub table_end : ℕ → ℕ
table_end n = up (align (table_type n)) zero + size (table_type n)

abbrev pub block_type : ℕ → List ℕ → List Named → Ty
block_type n texts rs = ty_struct [] (tcons (table_type n) (tys texts rs))

abbrev pub values : ℕ → List ℕ → List Named → ℕ → List (Valued Row)
values n texts rs b = row_valueds texts b (texts_start texts (table_end n) rs) (table_end n) rs []

module _ {M : Type 1} {𝓤 : Ura M} (𝓛 : Logic 𝓤) (n : ℕ) (texts : List ℕ) (rs : List Named) (table : Consts)
    (is_first : zero + up (align (table_type n)) zero ≡ zero) (is_raw : raw_ty (table_type n) ≡ raw_ty (lone (Array Row n).mir))
    (same : (b : ℕ) → array_val (row_vals texts b (texts_start texts (table_end n) rs) (table_end n) rs []) ≡ const_val b (c_parts table))
    (count : (b : ℕ) (ns : EachNames Row (values n texts rs b)) → length (each_val Row (values n texts rs b) ns) ≡ n)
    (total : ℕ) (all : length texts ≡ total) (bytes : T (bytes_fit texts rs)) (fit : T (rows_fit texts total rs)) where
  open 𝓛 use {H}

  pub rows_lent : (b : ℕ) (s : Share) → ent 𝓤 (sem 𝓛 (fat s (block_type n texts rs) b zero (const_val b (c_parts (ccons (c_parts table) (consts texts rs))))))
      (H.⇛ (ex 𝓤 (λ (ns : EachNames Row (values n texts rs b)). sem 𝓛 ((ShrRef static [] (Array Row n)).own_val (pointing b zero (each_val Row (values n texts rs b) ns)) (vptr b zero ∷ [])))))
  rows_lent b s =
      let R : RattleType = Array Row n in
      let e : ℕ = table_end n in
      let δ : Ty = table_type n in
      let c : Const = c_parts table in
      let cs : Consts = consts texts rs in
      let τs : Tys = tys texts rs in
      let ys : List (Valued Row) = values n texts rs b in
      let rest = laid 𝓛 texts total all e rs bytes in
      qed 𝓛 (‵ (fat s (block_type n texts rs) b zero (const_val b (c_parts (ccons c cs)))) ∷ []) ∵ updating ! $
      use1 𝓛 (‵ (fat s δ b (zero + up (align δ) zero) (const_val b c)) ⊛ raw (fields_at 𝓤 H s τs e b zero (const_vals b cs)))
      (via 𝓤 _ (𝓛.laws.struct_apart s [] (tcons δ τs) b zero (const_vals b (ccons c cs))) (fst∗ 𝓤 (fields_at 𝓤 H s (tcons δ τs) zero b zero (const_vals b (ccons c cs))) (H.left s (block_type n texts rs) (tcons δ τs) b zero))) $ split ! $
      rewrite ! 0 (λ (i : ℕ). ‵ (fat s δ b i (const_val b c))) is_first refl $ move ! (1 ∷ []) $
      use1 𝓛 (later (some (λ (k : Names texts rs). ‵ (pool texts e rs b k [])))) (rest.0 b s) $ await ! tt $ pick ! (λ k.
      let held = Holds-Array 𝓛 (pool texts e rs b k) Row n (row_vals texts b (texts_start texts e rs) e rs []) ys (rows_hold 𝓛 texts total all b e rs k fit) (count b) in
      use1 𝓛 (later (some (λ (ns : EachNames Row ys). ‵ (R.own_val (each_val Row ys ns) (array_val (row_vals texts b (texts_start texts e rs) e rs []) ∷ []))))) (held (rest.1 b k)) $ await ! tt $ pick ! (λ ns.
      rewrite ! 0 (λ (v : Val). ‵ (R.own_val (each_val Row ys ns) (v ∷ []))) (same b) refl $ move ! (1 ∷ 0 ∷ []) $
      use2 𝓛 (‵ (part_at R s (each_val Row ys ns) b zero)) (part_in_at 𝓛 R refl s (each_val Row ys ns) b zero δ is_raw (const_val b c)) $
      use1 𝓛 (later (‵ ((ShrRef static [] R).own_val (pointing b zero (each_val Row ys ns)) (vptr b zero ∷ [])) ⊛ ‵ (flent [] (part_at R s (each_val Row ys ns) b zero))))
      (lends_free 𝓛 R static [] s (each_val Row ys ns) b zero (((c_arr Row row_copy n).copied 𝓛).lends s (each_val Row ys ns) b zero)) $ await ! tt $ split ! $ move ! (1 ∷ []) $ drop ! $
      now ! $ show ! (λ (ns : EachNames Row ys). sem 𝓛 ((ShrRef static [] R).own_val (pointing b zero (each_val Row ys ns)) (vptr b zero ∷ []))) ns $ done !))
