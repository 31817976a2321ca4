pub mod KeptLaws
pub mod HeaderLaws
pub mod MeaningLaws
