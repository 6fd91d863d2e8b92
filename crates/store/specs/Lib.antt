pub mod Among
pub mod Laws
pub mod Placing
pub mod Relisted
pub mod Rooms
pub mod Store
