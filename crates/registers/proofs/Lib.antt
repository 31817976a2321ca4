pub mod Rows
pub mod Widths
pub mod FrameLaws
pub mod FrameMap
