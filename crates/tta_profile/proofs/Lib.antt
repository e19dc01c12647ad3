mod Tallies
mod Guards
mod Onward
mod Accesses
