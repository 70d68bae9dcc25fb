-- What the manifests come to.
pub mod Found
