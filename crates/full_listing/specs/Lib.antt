-- The words that the contracts use.
pub mod Lines
pub mod Numbers
pub mod Prints
pub mod Surveys
