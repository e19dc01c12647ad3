mod Wired
mod Ordered
mod Running
mod Entering
mod Agreeing
mod Settling
mod Finishing
