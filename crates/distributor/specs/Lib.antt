pub mod Model
pub mod ModelLaws
pub mod Loops
pub mod Writes
pub mod Host
