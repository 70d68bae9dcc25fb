pub mod Lines
pub mod Outputs
pub mod Plans
pub mod Steps
