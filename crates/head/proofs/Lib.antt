pub mod Covers
pub mod Seeking
pub mod Writing
pub mod Events
pub mod Standing
pub mod Putting
pub mod Replaying
