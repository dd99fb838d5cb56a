-- The words of contracts, from one place: also those of the grammars, which stand below this crate.
pub use Rattle.hesc_places.specs.Places.Enclosed.{AnswersFirstFault, IsReadAsText, enclosed}
pub use Rattle.hesc_places.specs.Places.Marks.{closing, opening}
pub use Rattle.hesc_places.specs.Places.ReadBack.{read_back}
pub use Rattle.hesc_places.specs.Places.Suits.{MayHold, suits}
pub use Rattle.hesc_places.specs.Pages.AttributeReadings.{Entry, attribute_at, attributes_at, differ, entry, first_ending}
pub use Rattle.hesc_places.specs.Pages.AttributeReadings.{value_at}
pub use Rattle.hesc_places.specs.Pages.FormEntries.{entries_of}
pub use Rattle.hesc_places.specs.Pages.FormFaults.{AnswersFormFault, first_fault}
pub use Rattle.hesc_places.specs.Pages.FormReadings.{alerted, form_found, form_reading, script_at, tag_end, value_of}
pub use Rattle.hesc_places.specs.Pages.FormTexts.{AreGood, IsReadAsForm, entry_back, form_back, form_text, written}
pub use Rattle.hesc_places.specs.Pages.PageReadings.{page_found, page_reading}
pub use Rattle.hesc_places.specs.Pages.PageTexts.{IsReadAsPage, page_back, page_text}
pub use Rattle.hesc_grammars.specs.Places.{body_of, first_mode, reading, step_of}
pub use Rattle.hesc_grammars.specs.Words.{is_end_tag, is_start_tag, is_white_space}
