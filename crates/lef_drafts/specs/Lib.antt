pub mod Drafts
pub mod Values
pub mod Worded
