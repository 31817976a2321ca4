pub mod Bounding
pub mod RefusalLaws
