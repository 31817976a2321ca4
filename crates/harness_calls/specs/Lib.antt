pub mod Ran
pub mod RanLaws
pub mod CodeRuns
