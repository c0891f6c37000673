pub mod Bursts
pub mod Single
