pub mod Answered
pub mod TextEnds
