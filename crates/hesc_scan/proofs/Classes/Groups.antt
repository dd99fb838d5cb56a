-- The groups agree with the classes.
use Rattle.std.proofs.Common.{◌≡◌, ◌≢◌, ℕ, ◌<◌, true, List, None, map, arith}
use Rattle.std.proofs.lemmas.Bool.Decides.{nat_tests}
use Rattle.std.proofs.lemmas.Bool.{agree_below}
use Rattle.std.specs.Simd.Lanes.{Each1, mask_l}
use Rattle.hesc_specs.specs.Text.Classes.{in_class, string_class}
use Rattle.hesc_specs.specs.declared.classes.Class.{Class}
use Rattle.hesc_scan.specs.Groups.{groups_in, in_groups}
use Rattle.hesc_scan.proofs.LaneLemmas.{mask_as_class}

agrees : (class : Class) → string_class class ≢ None → agree_below (in_groups (groups_in class)) (in_class class) 256 ≡ true
agrees class string = grind (arith, nat_tests)

-- the mask by the groups of a class
pub mask_by_groups : (class : Class) → string_class class ≢ None → (v : List ℕ) (mask : ℕ) → Each1 (λ b. b < 256) v → mask ≡ mask_l (map (in_groups (groups_in class)) v)
    → mask ≡ mask_l (map (in_class class) v)
mask_by_groups class string v mask below = mask_as_class class (in_groups (groups_in class)) v mask below (agrees class string)
