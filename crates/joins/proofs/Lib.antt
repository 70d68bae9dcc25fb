-- The lemmas: the bytes of a base URL, what an expansion begins with, and parts read from the last one to the front.
pub mod Bytes
pub mod Fronts
pub mod Walks
