use Rattle.html_template.proofs.Joined.{joined_pages, joined_urls, no_page}
use Rattle.html_template.proofs.Pages.{page_passes}
use Rattle.html_template.proofs.laws.pages_law.Goals as goal

pub returns : goal.returns
returns c = record { none = no_page; both = joined_pages; whole = page_passes; urls = joined_urls }
