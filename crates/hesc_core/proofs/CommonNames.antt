-- The names that encoders write have their values in every table.
use Rattle.std.proofs.Common.{◌≡◌, ℕ, ◌<◌, Bool, true, false, List, [], ◌∷◌, Some, None, IsTrue, codes, encode_utf8, if◌then◌else◌, length, refl, sym, arith}
use Rattle.std.specs.Str.{bytes_eq}
use Rattle.std.proofs.lemmas.Slice.Eq.{bytes_eq-Decides}
use Rattle.hesc_specs.specs.References.Rows.{Row, common_rows, row_at, value_of}
use Rattle.hesc_specs.specs.References.TableFaults.{is_table}
use Rattle.hesc_specs.proofs.References.Tables.{common_value}
use Rattle.hesc_table.specs.Table.{common_character}
use Rattle.hesc_table.proofs.NamedTable.{good-named_rows}
use Rattle.hesc_core.specs.Names.{names_rows}
use Rattle.hesc_core.specs.declared.rules.references.names.Names.{Names}
use Rattle.hesc_core.specs.declared.rules.references.names.Names.TheVariants.{BuiltIn, Of}

-- names are looked up in the rows of a table
pub names-good : (names : Names) → IsTrue (is_table (names_rows names))
names-good BuiltIn = good-named_rows
names-good (Of table) = table.now.good

module _ (rows : List Row) (good : IsTrue (is_table rows)) (name : List ℕ) (c : ℕ) where
  value_of_word : (k : ℕ) (word value : List ℕ) → k < length common_rows → (row_at common_rows k).0 ≡ word → value_of common_rows word ≡ Some value
      → true ≡ bytes_eq name word → value_of rows name ≡ Some value
  value_of_word k word value below is_row is_common is_word =
      let is : name ≡ word = (bytes_eq-Decides name word).0 (sym is_word) in
      rw is (common_value rows good k word value below is_row is_common)

  chosen : (lt gt amp quot : Bool) → lt ≡ bytes_eq name (codes "lt") → gt ≡ bytes_eq name (codes "gt") → amp ≡ bytes_eq name (codes "amp") → quot ≡ bytes_eq name (codes "quot")
      → Some c ≡ (if lt then Some 60 else (if gt then Some 62 else (if amp then Some 38 else (if quot then Some 34 else None)))) → value_of rows name ≡ Some (encode_utf8 c)
  unfolding lib.Utf8.encode
  chosen true gt amp quot is _ _ _ here = let character : c ≡ 60 = cc here in rw character (value_of_word 3 (codes "lt") (codes "<") (omega arith) refl refl is)
  chosen false true amp quot _ is _ _ here = let character : c ≡ 62 = cc here in rw character (value_of_word 2 (codes "gt") (codes ">") (omega arith) refl refl is)
  chosen false false true quot _ _ is _ here = let character : c ≡ 38 = cc here in rw character (value_of_word 0 (codes "amp") (codes "&") (omega arith) refl refl is)
  chosen false false false true _ _ _ is here = let character : c ≡ 34 = cc here in rw character (value_of_word 5 (codes "quot") (34 ∷ []) (omega arith) refl refl is)
  chosen false false false false _ _ _ _ here = absurd (cc here)

  pub common_character-value : Some c ≡ common_character name → value_of rows name ≡ Some (encode_utf8 c)
  common_character-value here = chosen (bytes_eq name (codes "lt")) (bytes_eq name (codes "gt")) (bytes_eq name (codes "amp")) (bytes_eq name (codes "quot")) refl refl refl refl here
