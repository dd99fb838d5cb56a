pub mod Bytes
pub mod OneByte
pub mod Texts
