pub mod Places
mod Walks
