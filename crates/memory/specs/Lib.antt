pub mod Bytes
pub mod Words
pub mod Turns
pub mod Meaning
pub mod Laws
