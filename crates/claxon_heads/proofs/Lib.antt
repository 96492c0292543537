-- How far a reader that counts bytes moved.
pub mod Positions
-- Faults for which a block is passed over are within its content.
pub mod FaultLengths
-- A head of which blocks may be passed over, and its reader.
pub mod FoundHeads
-- The last of some bytes.
pub mod LastBytes
-- The head of a stream of which blocks may be passed over, in the steps of the code.
pub mod StreamHeads
-- A head of which nothing is passed over is one of the format, and the other way round.
pub mod SupportedHeads
-- Faults of blocks that are passed over, by their texts.
pub mod UnsupportedFaults
