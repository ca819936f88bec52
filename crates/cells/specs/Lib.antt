pub mod Quads
pub mod Streams
