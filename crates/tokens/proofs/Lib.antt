pub mod Cuts
pub mod Dark
pub mod Firsts
pub mod Hex
pub mod Letters
