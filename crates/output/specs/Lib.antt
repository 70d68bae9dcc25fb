-- The words that the contracts use.
pub mod Text
pub mod Digits
