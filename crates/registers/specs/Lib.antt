pub mod Registers
pub mod MapLaws
pub mod FrameLaws
pub mod FrameMap
