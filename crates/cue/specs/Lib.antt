-- What the contracts say: lines, what they say, and what is said of a call.
pub mod Lines
pub mod Orders
pub mod Reports
