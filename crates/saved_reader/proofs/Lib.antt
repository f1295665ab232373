pub mod Appending
pub mod Gathered
pub mod Records
pub mod Within
