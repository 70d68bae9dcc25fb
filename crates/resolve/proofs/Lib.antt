-- The lemmas: on the values in their order, on the first refusal that applies, on
-- addresses, on sums, and on what comes of it all.
pub mod Order
pub mod Firsts
pub mod Addresses
pub mod Outcomes
pub mod Media
pub mod Written
