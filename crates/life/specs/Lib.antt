pub mod Life
pub mod LifeLaws
