pub mod Closure
