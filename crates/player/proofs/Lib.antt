-- The lemmas: on what is opened, on replays, on the laid-out timeline, and on sums.
pub mod Opened
pub mod Agreeing
pub mod Laid
pub mod Lengths
