pub mod Affinity
pub mod States
pub mod AffinityLaws
pub mod StateLaws
