-- The words that the contracts use, and the laws that the timelines cite.
pub mod Limits
pub mod Refusals
pub mod Segments
pub mod Runs
pub mod Evenly
pub mod Layers
pub mod Addresses
pub mod Theorems
pub mod Laws
pub mod Bottoms
