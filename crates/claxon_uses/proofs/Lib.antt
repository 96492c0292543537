-- The samples that calls gave, collected.
pub mod Collecting
-- Calls that were out of memory, or whose source failed.
pub mod MemoryOrIoErrors
-- The first samples of a stream, and its first fault.
pub mod FirstSamples
-- What follows the head of a stream that was opened.
pub mod Opened
-- A packet that has to be exactly one frame.
pub mod Packets
-- Pairs with CRC as bytes.
pub mod PairWithCrc
-- The greatest magnitude of samples, one more at a time.
pub mod Peaks
-- The tags of a stream whose head was read, or not.
pub mod StreamTags
-- What a call returns that reads a whole stream in memory.
pub mod StreamsInMemory
