mod Pushed
mod Pieces
mod Runs
mod Walked
mod Lengths
mod Told
mod Bounds
mod Given
