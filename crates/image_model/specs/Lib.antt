pub mod Told
pub mod Face
pub mod GoodLaws
pub mod Create
pub mod FaceRefusals
pub mod CreateLaws
pub mod FaceOrder
pub mod FaceIsolation
