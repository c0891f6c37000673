pub mod Promised
pub mod Rounds
pub mod Alone
