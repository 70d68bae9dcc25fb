pub mod Parts
pub mod Rows
pub mod Zero
pub mod Leaving
