mod Cuts
mod Digits
mod Filled
mod GrammarHolds
mod Samples
