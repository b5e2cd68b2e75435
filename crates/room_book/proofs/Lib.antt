mod Turns
mod Moves
mod Links
