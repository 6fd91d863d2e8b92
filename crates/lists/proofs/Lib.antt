mod Room
mod Finding
mod Reading
pub mod Regions
