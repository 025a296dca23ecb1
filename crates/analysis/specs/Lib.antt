pub mod Analyses
