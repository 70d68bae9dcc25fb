-- Lemmas that the proofs of several functions share.
pub mod Spans
pub mod Wholes
pub mod Evened
