pub mod Owned
pub mod OwnedLaws
