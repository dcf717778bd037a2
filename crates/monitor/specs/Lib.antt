pub mod Layout
pub mod Slots
pub mod Roll
pub mod Bytes
pub mod Theorem
pub mod Content
pub mod Laws
pub mod Examples
