pub mod Bounds
pub mod Cutting
pub mod Queues
pub mod Weaker
