pub mod Points
pub mod Products
pub mod Apart
pub mod Ends
pub mod Rectangles
pub mod Near
