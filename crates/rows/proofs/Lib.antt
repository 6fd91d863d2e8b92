mod Cells
pub mod Inserted
mod Keeping
pub mod Laid
pub mod Laws
