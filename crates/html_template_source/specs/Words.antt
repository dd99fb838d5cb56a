-- The words of contracts, from one place.
pub use Rattle.html_template_source.specs.Bindings.{AnswersBind, AnswersBinding, bind_fault, binding_faults, bindings_of}
pub use Rattle.html_template_source.specs.Bindings.{slot_faults, text_of}
pub use Rattle.html_template_source.specs.NamedTemplates.{chunks_of, names_of}
pub use Rattle.html_template_source.specs.Sources.{IsSourceOf, TakeTurns, is_source}
