pub mod Sheets
pub mod SheetTexts
