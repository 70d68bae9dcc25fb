-- Laws of the lists that timelines mean.
pub mod Tellings
pub mod Kept
pub mod Splits
pub mod Expands
pub mod Evens
pub mod Shifts
pub mod Cuts
