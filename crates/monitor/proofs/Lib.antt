mod Noting
mod Making
mod Shutting
mod Resting
mod Words
mod Agreeing
