pub mod Names
pub mod NamesLaws
pub mod Refusals
pub mod OrderFacts
pub mod Order
pub mod Isolation
