-- The samples that fit in the buffer.
pub mod BufferBounds
-- Bytes written one after another.
pub mod Appended
-- Counts of a writer's failed calls and flushes, over several calls.
pub mod Counts
-- Bytes that were written or are pending.
pub mod Puts
-- Blocks that are read and gathered one after another.
pub mod Gathering
-- Reads through a mutable reference are reads of its target.
pub mod Borrowed
-- If the input is the frames of blocks and then no frame, exactly their samples are written.
pub mod CompleteStreams
-- A whole run: a head, the frames of blocks, and what follows them.
pub mod Runs
-- The remaining input is a rest of the input before.
pub mod RestOfInput
-- The bytes of ranges of interchannel samples.
pub mod SampleBytes
