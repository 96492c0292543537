mod Vectors
mod SampleExamples
pub mod Padding
pub mod Steps
pub mod Words
pub mod Rounds
pub mod Blocks
pub mod Hashing
pub mod WholeBytes
pub mod Planar
