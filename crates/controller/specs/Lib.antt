pub mod Modes
pub mod Identity
pub mod IdentityLaws
