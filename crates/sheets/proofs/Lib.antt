pub mod SheetLaws
pub mod CellLoop
pub mod RowLoop
pub mod Examples
pub mod TextLoop
