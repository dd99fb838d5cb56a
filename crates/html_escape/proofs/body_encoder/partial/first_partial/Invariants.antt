use Rattle.std.proofs.Common.{◌≡◌, ◌-◌, ◌≤◌, ◌<◌, ◌==◌, true, length, slice_index}
use Rattle.hesc_specs.specs.Text.Ascii.{less_than}
use Rattle.hesc_specs.specs.Bodies.Sessions.{is_partial}
use Rattle.hesc_scan.proofs.OpeningSearch.{Nowhere}
use Rattle.html_escape.proofs.body_encoder.partial.first_partial.Given as goal

-- nothing is partial before the place, which is that of a `<` or the end
abbrev pub invariant-seeking : goal.invariant-seeking
invariant-seeking l = record {
  ordered : l.from ≤ l.place;
  within : l.place ≤ length l.bytes;
  none : Nowhere (is_partial l.element) l.bytes l.from l.place;
  begins : l.place < length l.bytes → (slice_index l.bytes l.place == less_than) ≡ true;
}

abbrev pub decreases-seeking : goal.decreases-seeking
decreases-seeking l = length l.bytes - l.place
