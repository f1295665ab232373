pub mod Cells
pub mod Held
pub mod NameLaws
pub mod Names
