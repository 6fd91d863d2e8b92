pub mod Orderly
pub mod Queue
pub mod Served
