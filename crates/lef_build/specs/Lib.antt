pub mod Answers
pub mod Building
pub mod Causes
pub mod Distances
pub mod Known
pub mod Laws
pub mod Stated
