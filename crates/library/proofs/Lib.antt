pub mod TerminalNames
