pub mod Changes
pub mod ChangeRules
