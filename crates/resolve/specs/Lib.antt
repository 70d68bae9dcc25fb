-- The words that the contracts use.
pub mod Faults
pub mod Values
pub mod Asking
pub mod Outcome
