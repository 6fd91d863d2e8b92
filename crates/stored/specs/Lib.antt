pub mod Stored
pub mod Numbers
pub mod Kept
pub mod Stands
