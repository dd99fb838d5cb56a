-- The words of contracts, from one place.
pub use Rattle.html_template.specs.FillFaults.{AnswersFill, fill_fault, text_faults}
pub use Rattle.html_template.specs.FilledUrls.{HasUrls, HasUrlsOf, filled_urls, template_urls, url_texts}
pub use Rattle.html_template.specs.Fragments.{markup_in, markup_of}
pub use Rattle.html_template.specs.PageUrls.{LeadsAsAny, urls_of}
pub use Rattle.html_template.specs.Slots.{MayFill, written}
pub use Rattle.html_template.specs.Structure.{IsPageOf, IsReadAs, IsWhole, JoinsWritten, structure}
pub use Rattle.html_template.specs.TemplateFaults.{is_template, placed, template_of}
pub use Rattle.html_template.specs.TemplatePieces.{pieces_of}
pub use Rattle.html_template.specs.Templates.{Chunk, Given, GivenMarkup, GivenSlot, Markup, Slot, given, page, part_of}
pub use Rattle.html_template.specs.Writing.{AnswersWriting}
pub use Rattle.html_template.specs.FirstFault.{IsFirst}
