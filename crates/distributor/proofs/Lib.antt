pub mod Creating
pub mod Hosting
pub mod Listing
pub mod Replying
pub mod Writing
