pub mod DifferentTexts
pub mod Changes
pub mod Images
