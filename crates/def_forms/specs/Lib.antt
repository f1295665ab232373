pub mod Classes
pub mod Forms
pub mod Keywords
pub mod Numbers
pub mod Quoted
pub mod WordSets
