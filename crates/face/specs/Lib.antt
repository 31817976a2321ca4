pub mod Sweeps
pub mod Guest
pub mod Host
