pub mod Cuts
pub mod SourceParts
pub mod Numbers
pub mod Placed
pub mod FirstFaults
pub mod Ordered
pub mod OneSource
pub mod WhichFault
