pub mod Answers
pub mod Channels
pub mod Fields
pub mod Numbers
pub mod OneRow
pub mod Refusals
pub mod Rows
