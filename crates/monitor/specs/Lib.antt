pub mod Automata
pub mod Product
pub mod Piles
pub mod Edits
pub mod Tables
pub mod Replay
