-- The words that the contracts use.
pub mod Joints
pub mod Steps
