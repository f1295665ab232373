pub mod Answers
pub mod Commands
pub mod Forms
pub mod Verb
pub mod Words
