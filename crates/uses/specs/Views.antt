pub mod FramedPages
pub mod NestedPages
