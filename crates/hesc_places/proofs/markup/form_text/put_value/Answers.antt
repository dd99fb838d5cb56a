use Rattle.hesc_places.proofs.markup.form_text.put_value.Goals as goal

pub returns-in-Single : goal.returns-in-Single
returns-in-Single g c = rw c.in-Single.is c.put_between.ensures

pub returns-in-Double : goal.returns-in-Double
returns-in-Double g c = rw c.in-Double.is c.put_between-in-Double.ensures
