pub mod Answers
pub mod Due
pub mod Laws
pub mod Reading
pub mod Rules
