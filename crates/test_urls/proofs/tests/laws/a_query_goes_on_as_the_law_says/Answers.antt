use Rattle.test_urls.proofs.Fronts.{query_front}
use Rattle.test_urls.proofs.tests.laws.a_query_goes_on_as_the_law_says.Goals as goal

pub url_law-requires-clause-ends : goal.url_law-requires-clause-ends
url_law-requires-clause-ends g c = query_front
