-- The lemmas: on tests, on numbers, and on the parts and the whole of a duration.
pub mod Numbers
pub mod Wholes
pub mod Ways
pub mod Parts
pub mod Sum
pub mod Complete
pub mod Sound
pub mod Presence
