-- The chunks of a WAV file, composed of pieces.
pub mod RiffChunks
-- Blocks that are written one after another, and the file that they make.
pub mod Converting
-- The end of a file: the pad byte, and the right header.
pub mod Ending
-- Samples as the bytes of a WAV file.
pub mod PackedSamples
-- Memory that blocks use again, one after another.
pub mod BlockMemory
-- The number of samples that a file holds.
pub mod SampleCounts
-- Files that are written as planned.
pub mod Planned
