pub mod Digits
pub mod Refusing
pub mod Idling
