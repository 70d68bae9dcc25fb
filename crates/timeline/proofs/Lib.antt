-- Lemmas that the proofs of several functions share.
pub mod Filters
pub mod Asked
pub mod Layered
pub mod Following
pub mod Walks
pub mod Writes
pub mod Order
pub mod Parts
