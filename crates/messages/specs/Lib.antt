pub mod Checksum
pub mod Messages
