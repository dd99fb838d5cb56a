pub mod FirstSegment
pub mod Images
pub mod OpaquePaths
pub mod Opening
pub mod PathLaw
pub mod PathSegments
pub mod SegmentFits
pub mod WebSchemes
