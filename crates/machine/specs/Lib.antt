pub mod Turns
pub mod State
pub mod Asked
