pub mod Ids
pub mod Keeping
pub mod Naming
pub mod Places
