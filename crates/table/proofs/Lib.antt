mod Subsets
mod States
mod Ranges
