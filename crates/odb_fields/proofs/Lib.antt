pub mod Inputs
pub mod Numbers
pub mod Texts
