pub mod Lines
pub mod Numbers
pub mod Surveys
