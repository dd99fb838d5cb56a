-- What callers of the decoders are handed.
pub mod OwnRows
