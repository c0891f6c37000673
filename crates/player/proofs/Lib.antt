pub mod Performing
pub mod Noting
pub mod FromStart
