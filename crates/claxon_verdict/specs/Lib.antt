pub mod Verdict
pub mod Tally
pub mod Container
pub mod Options
