pub mod Checks
pub mod Plan
pub mod Planning
pub mod Refusals
