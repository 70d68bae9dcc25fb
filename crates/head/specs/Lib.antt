-- The words that the contracts use.
pub mod Refusals
pub mod Heads
pub mod Sequences
