pub mod Causes
pub mod Entered
