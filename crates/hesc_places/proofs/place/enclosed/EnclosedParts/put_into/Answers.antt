use Rattle.hesc_places.proofs.place.enclosed.EnclosedParts.put_into.Goals as goal

pub returns : goal.returns
returns g c = rw (c.opening-before.ensures, c.closing-after.ensures) at c.put_between.ensures
