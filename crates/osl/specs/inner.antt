pub mod Closures
