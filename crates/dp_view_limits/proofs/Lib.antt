-- Lemmas on the lengths of names and decimals, on those of properties, and on what is left of a count.
pub mod Lengths
pub mod Decimals
pub mod Written
pub mod Left
