-- The words that the contracts use.
pub mod Numbers
pub mod Opening
