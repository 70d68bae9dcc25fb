pub mod Questions
pub mod Laws
pub mod Trees
