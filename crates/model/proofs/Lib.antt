pub mod Beyond
pub mod Covering
pub mod Granting
pub mod Listing
pub mod Reading
pub mod Creating
