pub mod Marks
pub mod Suits
pub mod ReadBack
pub mod Trials
pub mod Enclosed
