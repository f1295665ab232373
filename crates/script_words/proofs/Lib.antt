pub mod FileNames
pub mod TerminalLemmas
pub mod WordLemmas
