mod Lists
mod Binary
mod Machines
mod Told
mod Going
mod Rows
mod Slots
mod Headers
