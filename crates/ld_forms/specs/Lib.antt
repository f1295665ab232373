pub mod Filling
pub mod Kept
pub mod Names
pub mod Passing
pub mod Places
pub mod Worded
