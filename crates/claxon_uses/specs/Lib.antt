pub mod Collecting
pub mod FirstSamples
pub mod Packets
pub mod PairWithCrc
pub mod Peak
pub mod StreamsInMemory
pub mod TagLines
