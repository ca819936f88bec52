pub mod Packing
pub mod RleCodes
pub mod Runs
pub mod Starts
pub mod StoredRows
pub mod Stream
pub mod Windows
pub mod Words
