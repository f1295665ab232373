pub mod Answered
pub mod Spelled
pub mod SpelledMacros
pub mod SpelledTexts
