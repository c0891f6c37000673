pub mod Flags
pub mod Handing
