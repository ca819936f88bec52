pub mod FaultLaws
pub mod NumberLaws
pub mod OptionLaws
pub mod OptionPlaces
pub mod Pieces
pub mod Examples
