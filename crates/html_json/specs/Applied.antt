-- The changes of the encoders, made, are their encodings: what their rules have to give.
use Rattle.std.proofs.Common.{◌≡◌, ℕ, ◌+◌, ◌≤◌, List, [], ◌∷◌, ◌++◌, Bool, true, false, drop, refl, ap, ◌∙◌, append_assoc, arith}
use Rattle.std.specs.Prelude.{slice_range}
use Rattle.std.specs.List.{flat_map}
use Rattle.std.proofs.lemmas.List.Folds.{drop_split}
use Rattle.hesc_specs.specs.Text.Changes.{applied}
use Rattle.hesc_specs.proofs.Text.SliceRanges.{slice_range-more, slice_range-nothing, drop-next}
use Rattle.html_json.specs.Bytes.{byte_changes, byte_changes_of}
use Rattle.html_json.specs.Encoding.{is_less, json_changes, json_encoding, json_image}

-- a byte stays where the test fails
abbrev pub Keeps : (ℕ → Bool) → (ℕ → List ℕ) → Type 0
Keeps is_changed image = (b : ℕ) → is_changed b ≡ false → image b ≡ b ∷ []

-- one byte more, by whether it is changed
applied_step : (is_changed : ℕ → Bool) (image : ℕ → List ℕ) → Keeps is_changed image → (source : List ℕ) (from at b : ℕ) (bytes : List ℕ) (t : Bool)
    → is_changed b ≡ t → from ≤ at → drop at source ≡ b ∷ bytes
    → applied source from (byte_changes_of is_changed image (at + 1) bytes) ≡ slice_range source from (at + 1) ++ flat_map image bytes
    → applied source (at + 1) (byte_changes_of is_changed image (at + 1) bytes) ≡ slice_range source (at + 1) (at + 1) ++ flat_map image bytes
    → applied source from (byte_changes_of is_changed image at (b ∷ bytes)) ≡ slice_range source from at ++ flat_map image (b ∷ bytes)
applied_step is_changed image keeps source from at b bytes true hit ordered is on next =
    let after : applied source (at + 1) (byte_changes_of is_changed image (at + 1) bytes) ≡ flat_map image bytes = rw (slice_range-nothing source (at + 1)) at next in
    rw (hit, after) refl
applied_step is_changed image keeps source from at b bytes false hit ordered is on next =
    rw (hit, keeps b hit) (on ∙ rw (slice_range-more source from at b bytes ordered is) (append_assoc (slice_range source from at) (b ∷ []) (flat_map image bytes)))

applied_of : (is_changed : ℕ → Bool) (image : ℕ → List ℕ) → Keeps is_changed image → (source : List ℕ) (from at : ℕ) (bytes : List ℕ) → from ≤ at
    → drop at source ≡ bytes → applied source from (byte_changes_of is_changed image at bytes) ≡ slice_range source from at ++ flat_map image bytes
applied_of is_changed image keeps source from at [] ordered is = drop_split source from at ordered ∙ ap (λ rest. slice_range source from at ++ rest) is
applied_of is_changed image keeps source from at (b ∷ bytes) ordered is =
    let rest : drop (at + 1) source ≡ bytes = drop-next source at b bytes is in
    applied_step is_changed image keeps source from at b bytes (is_changed b) refl ordered is
    (applied_of is_changed image keeps source from (at + 1) bytes (omega arith) rest)
    (applied_of is_changed image keeps source (at + 1) (at + 1) bytes (omega arith) rest)

-- the changes, made, are the images of all bytes
pub applied-byte_changes : (is_changed : ℕ → Bool) (image : ℕ → List ℕ) → Keeps is_changed image → (source : List ℕ)
    → applied source 0 (byte_changes is_changed image source 0) ≡ flat_map image source
applied-byte_changes is_changed image keeps source = applied_of is_changed image keeps source 0 0 source (omega arith) refl

less_keeps : Keeps is_less json_image
less_keeps b other = rw other refl

pub applied-json_changes : (source : List ℕ) → applied source 0 (json_changes source 0) ≡ json_encoding source
applied-json_changes source = applied-byte_changes is_less json_image less_keeps source
