pub mod Fields
pub mod Layout
pub mod Memory
