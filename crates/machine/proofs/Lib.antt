pub mod Ports
pub mod Spaced
pub mod Stores
pub mod Wiping
pub mod Refused
pub mod Logs
