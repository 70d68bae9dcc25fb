pub mod Broken
pub mod Faults
pub mod Findings
pub mod Laws
