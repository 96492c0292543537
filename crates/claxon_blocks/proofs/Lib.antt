-- A call that reads a block.
pub mod BlockReads
-- A block that was read through a reader that keeps a CRC, over a mutable reference, in terms of
-- the borrowed reader.
pub mod ReadsBelow
-- The first 16 bytes that a reader keeps, and the bytes that it gave.
pub mod KeptBytes
-- The fault of a frame whose header has the bit depth code for 32 bits, and the bytes that say so.
pub mod FirstBytes
-- Whether all elements so far satisfy a predicate.
pub mod SamplesFit
-- The interleaved samples of blocks, which are hashed one range after another.
pub mod HashedBlocks
