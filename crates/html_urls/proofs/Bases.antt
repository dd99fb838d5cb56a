pub mod Ends
pub mod Filling
pub mod GoesAs
pub mod Headings
pub mod Opened
pub mod Origins
pub mod OwnBases
pub mod OwnPaths
