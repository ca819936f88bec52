pub mod CheckLaws
pub mod RunLaws
pub mod ReadLaws
pub mod QuoteLaws
