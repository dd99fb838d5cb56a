pub mod FixedHosts
pub mod OpaqueFronts
pub mod PlaceIs
pub mod UrlLaw
