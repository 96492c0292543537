-- The bytes that are read on, and those that a window holds.
pub mod BytesRead
-- What comes next, by tries.
pub mod Tries
-- The head of the stream that a source begins with.
pub mod Heads
-- How much is left to be read into a window.
pub mod Windows
-- What is promised of the next block, by what comes next.
pub mod Nexts
-- Calls that failed, of calls one after another.
pub mod Counts
-- What a seek finds in a source.
pub mod Seeks
-- What the clock is told of what comes next.
pub mod Clocks
