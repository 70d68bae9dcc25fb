-- What the contracts say: faults, whole numbers, repeat counts and durations.
pub mod Faults
pub mod Whole
pub mod Repeat
pub mod Fields
pub mod Duration
pub mod Given
