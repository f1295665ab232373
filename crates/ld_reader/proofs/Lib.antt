pub mod Answered
pub mod Filled
pub mod Places
