pub mod Examples
pub mod FloatOrder
pub mod Placing
pub mod Promises
pub mod Scales
pub mod ScreenLaws
pub mod Shades
