-- The lemmas: on durations, on the Periods one after the other, on their ends, and on what is read of them.
pub mod Durations
pub mod Sizes
pub mod Steps
pub mod Ends
pub mod Asks
