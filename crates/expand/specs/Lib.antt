-- The words that the contracts use.
pub mod Faults
pub mod Stating
pub mod Expanding
