pub mod Kinds
pub mod Fields
pub mod Reader
pub mod Writer
pub mod Split
pub mod Written
pub mod Mirrors
pub mod Samples
