pub mod Cut
pub mod Digits
pub mod Lines
pub mod Options
pub mod Words
