pub mod Changes
pub mod Keeping
pub mod Linking
pub mod Lists
pub mod Members
pub mod Reading
pub mod Vectors
pub mod Walking
