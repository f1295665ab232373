pub mod Ids
pub mod Links
pub mod Lists
pub mod Standing
pub mod VecLinks
