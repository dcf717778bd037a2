pub mod Front
pub mod Spread
pub mod InTurn
pub mod Places
