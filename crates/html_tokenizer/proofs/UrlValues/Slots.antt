pub mod AtSlots
pub mod Components
pub mod Marks
pub mod Refusals
pub mod Tame
