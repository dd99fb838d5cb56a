pub mod NamedTexts
pub mod OpenSegments
pub mod LaterSlots
pub mod FirstSlot
pub mod MayFill
pub mod OpaqueRests
pub mod Told
