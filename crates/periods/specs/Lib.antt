-- The words that the contracts use.
pub mod Starts
