pub mod Putting
pub mod Lengths
pub mod Numerals
pub mod TakenApart
pub mod Summary
