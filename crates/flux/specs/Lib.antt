pub mod Flux
