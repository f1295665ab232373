pub mod Laws
pub mod MacroSpelling
pub mod Reading
pub mod Spelling
pub mod TextSpelling
