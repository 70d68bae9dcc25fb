pub mod Measured
pub mod Words
pub mod Sound
pub mod Complete
pub mod Steps
pub mod Places
pub mod Walks
