-- The lemmas: the first bytes of a text, texts that are put in parts, and how the parts of an address are joined.
pub mod Words
pub mod Texts
pub mod Join
