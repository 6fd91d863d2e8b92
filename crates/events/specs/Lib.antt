pub mod Kinds
pub mod Layout
pub mod Meaning
pub mod Reading
pub mod Rows
pub mod Writing
pub mod Codec
