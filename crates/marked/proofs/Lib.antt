pub mod After
pub mod Quick
pub mod Marked
