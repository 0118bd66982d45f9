mod Lines
mod Telling
