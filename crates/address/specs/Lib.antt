-- The words that the contracts use.
pub mod Expansion
pub mod Joining
pub mod Putting
