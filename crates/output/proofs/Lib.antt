-- The lemmas: texts of several parts, and the law of a padded number.
pub mod Several
pub mod Law
