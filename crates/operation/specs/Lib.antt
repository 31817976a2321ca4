pub mod Operation
pub mod Laws
pub mod Tidy
