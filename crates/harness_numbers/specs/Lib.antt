pub mod Numbers
pub mod Values
