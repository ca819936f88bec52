pub mod Interface
pub mod Reading
