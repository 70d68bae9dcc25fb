pub mod Runs
pub mod Cursor
pub mod Lexing
pub mod Tags
pub mod Names
pub mod Outside
pub mod Gaining
