pub mod Text
pub mod Put
pub mod TakenApart
pub mod Summary
