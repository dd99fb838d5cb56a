use Rattle.std.proofs.Common.{arith}
use Rattle.hesc_places.proofs.Places.MostBytes.{most_enclosed}
use Rattle.hesc_places.proofs.place.enclosed.EnclosedParts.most.Goals as goal

pub returns : goal.returns
returns c small =
    let self = c.args.self.now in
    let written = c.most_encoded.ensures self.encoder (omega (arith, small, c.saturating_add.ensures)) in
    omega (arith, most_enclosed self.encoder self.place self.text.now c.most_encoded.result written, c.saturating_add.ensures, small)
