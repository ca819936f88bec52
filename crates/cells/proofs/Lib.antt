pub mod Blocks
pub mod CellLaws
pub mod Codes
pub mod Loops
pub mod RowCodes
pub mod Trials
pub mod Within
