-- The worked cases: their manifests, and the list.
pub mod Manifests
pub mod Worked
