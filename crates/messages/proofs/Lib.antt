pub mod MessageLaws
pub mod Examples
