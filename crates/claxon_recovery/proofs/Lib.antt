-- Reads of a source, one after another.
pub mod Reading
-- What bytes begin with, by their header and the rest of a frame.
pub mod Beginnings
-- Positions at which no frame begins.
pub mod Positions
-- Bytes of which each is 0, joined.
pub mod Zeros
-- Damage, one step after another.
pub mod Damages
-- What stands at a position, while more bytes are read.
pub mod Standing
-- The frame that comes next is the part.
pub mod FoundFrames
-- A part of a stream, and what is left after it.
pub mod PartsGiven
-- What tries are charged, and which positions are counted as unsearched.
pub mod Charges
-- How many bytes are kept.
pub mod Kept
-- Whole runs.
pub mod Runs
-- The next frame, after any damage.
pub mod NextFrames
