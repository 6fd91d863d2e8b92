mod Digits
mod Eight
mod Fields
mod Filled
mod Pieces
mod Quarters
mod Same
