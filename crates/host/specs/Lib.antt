pub mod States
pub mod Records
pub mod Parts
pub mod Promised
pub mod Handing
