pub mod Sample
pub mod Commands
pub mod Runs
pub mod SheetReads
pub mod QuoteRuns
