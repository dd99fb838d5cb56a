-- The block of the constant, and what is computed of it: it is laid out as a block of rows is, and its rows are those of the definition.
use Rattle.std.proofs.Common.{ℕ, ◌≡◌, List, [], ◌∷◌, map, refl}
use lib.Dec.{T}
use lib.ListN.{length}
use mir.Syntax.{Const, Consts, c_parts, cnil, ccons}
use mir.Val.{const_val, has_ty}
use denote.Array.{array_val}
use borrow.Rule.StaticParts.{EachNames, Span, each_val, numbers_fit}
use Rattle.html_entities.specs.NamedReferences.{named_references}
use Rattle.html_entities.proofs.StaticRows.{Named, Row, block_type, bytes_fit, consts, row_consts, row_vals, rows_fit, table_end, texts_start, values}
use Rattle.html_entities.proofs.RowPlaces.{spans, texts}

-- the rows from the last to the first
abbrev pub reversed : List (List ℕ × List ℕ) → List Span → List Named → List Named
reversed [] places rs = rs
reversed (row ∷ rows) [] rs = rs
reversed (row ∷ rows) (place ∷ places) rs = reversed rows places ((row.0, place) ∷ rs)

abbrev pub rs : List Named
rs = reversed named_references spans []

abbrev pub table : Consts
table = row_consts texts (texts_start texts (table_end 2125) rs) (table_end 2125) rs cnil

abbrev pub block : Const
block = c_parts (ccons (c_parts table) (consts texts rs))

pub all_texts : length texts ≡ 4374
all_texts = refl

pub bytes : T (bytes_fit texts rs)
bytes = tt

pub fit : T (rows_fit texts 4374 rs)
fit = tt

pub count : (b : ℕ) (ns : EachNames Row (values 2125 texts rs b)) → length (each_val Row (values 2125 texts rs b) ns) ≡ 2125
count b ns = refl

pub same : (b : ℕ) → array_val (row_vals texts b (texts_start texts (table_end 2125) rs) (table_end 2125) rs []) ≡ const_val b (c_parts table)
same b = refl

pub typed : (b : ℕ) → T (has_ty (block_type 2125 texts rs) (const_val b block))
typed b = tt

pub numbers : T (numbers_fit block)
numbers = tt

-- the rows that the block holds are those of the definition
pub are_named : (b : ℕ) (ns : EachNames Row (values 2125 texts rs b)) → map (λ row. (row.0.now, row.1.now)) (each_val Row (values 2125 texts rs b) ns) ≡ named_references
unfolding lib.Utf8.encode
are_named b ns = refl
