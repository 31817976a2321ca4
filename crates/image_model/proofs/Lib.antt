pub mod FaceLaws
pub mod FaceRefusals
pub mod FaceIsolation
pub mod FaceOrder
