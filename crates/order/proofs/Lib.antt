pub mod NamesLaws
pub mod OrderFacts
pub mod ReplyFacts
pub mod Order
