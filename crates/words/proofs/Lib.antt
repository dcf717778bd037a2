pub mod Back
pub mod Following
pub mod Numerals
pub mod Spelling
pub mod Whole
pub mod Refusing
pub mod Labels
pub mod Counted
