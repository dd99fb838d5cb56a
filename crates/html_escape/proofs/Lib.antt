mod DecidedBound
mod DecidedPlaces
mod DecoderBounds
pub mod EncoderBounds
pub mod Sessions
pub mod Steps
pub mod WholePieces
pub mod JoinedWrites
