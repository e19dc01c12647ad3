mod Memory
mod Pieces
