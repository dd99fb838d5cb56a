use Rattle.test_urls.proofs.Fronts.{hostile_bytes, hostile_fill}
use Rattle.test_urls.proofs.tests.laws.texts_are_values_of_pairs_as_the_laws_say.Goals as goal

pub url_pairs_law-requires-clause-fills : goal.url_pairs_law-requires-clause-fills
url_pairs_law-requires-clause-fills g c = hostile_fill

pub url_pairs_law-requires-clause-bytes : goal.url_pairs_law-requires-clause-bytes
url_pairs_law-requires-clause-bytes g c = hostile_bytes

pub item_law-requires : goal.item_law-requires
item_law-requires g c = hostile_fill
