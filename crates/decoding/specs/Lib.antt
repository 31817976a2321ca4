pub mod Decoding
pub mod Bounds
pub mod WidthLaws
