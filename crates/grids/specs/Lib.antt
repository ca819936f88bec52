pub mod Levels
pub mod Scale
pub mod Screens
