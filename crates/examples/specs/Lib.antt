pub mod Ends
pub mod Board
pub mod OrderExamples
pub mod IsolationExamples
pub mod Listings
pub mod Corners
pub mod Release
