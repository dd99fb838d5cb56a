-- The words of contracts, from one place.
pub use Rattle.html_view.specs.AskedNames.{asked_name, names_in}
pub use Rattle.html_view.specs.Data.{Datum, Fragment, Record, bare, field}
pub use Rattle.html_view.specs.Forms.{SameForm}
pub use Rattle.html_view.specs.JsonData.{datum_of_json}
pub use Rattle.html_view.specs.JsonTexts.{json_of, json_text}
pub use Rattle.html_view.specs.Nodes.{written}
pub use Rattle.html_view.specs.Reading.{IsSource, partials_of}
pub use Rattle.html_view.specs.Rendered.{Unrolled, Unrolling, rendered, unrolled}
pub use Rattle.html_view.specs.Spelled.{IsSpelled, spelled}
pub use Rattle.html_view.specs.Unrolled.{AreTemplates, Unrolls}
pub use Rattle.html_view.specs.Values.{datum_of}
pub use Rattle.html_view.specs.Views.{AddsPage, MakesFragment, Renders, Writes, WritesPage, nodes_in, parts_of, unrolled_by}
