pub mod Bytes
pub mod Classes
pub mod Cursor
pub mod Machine
pub mod Numbers
pub mod Outcomes
pub mod Rows
pub mod Tags
