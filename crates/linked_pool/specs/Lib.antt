pub mod Changes
pub mod Linking
pub mod Pairs
