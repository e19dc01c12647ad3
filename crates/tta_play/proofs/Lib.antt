mod Landing
mod Rows
mod Sizes
mod Skipped
mod Small
mod Told
mod Unmade
