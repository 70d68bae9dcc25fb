-- The words that the contracts use.
pub mod Lists
pub mod Sums
