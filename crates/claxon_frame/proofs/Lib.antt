-- The channels of a block, one after another in a buffer.
pub mod ChannelsInBuffer
-- What was read through a CRC reader over a mutable reference, in terms of the borrowed reader.
pub mod CrcOverBorrow
-- The loop that reads the continuation bytes of a coded number.
pub mod ContinuationBytes
-- The CRC-8 after the fields of a frame header.
pub mod HeaderCrc
-- Bit depths that have a code.
pub mod BitDepthCodes
-- Decorrelation is undone in place.
pub mod Decorrelation
-- Subframes read one after another into one slice.
pub mod SubframesInBuffer
-- A frame by its parts.
pub mod FrameParts
-- The calls that read a frame, one after another.
pub mod FrameSteps
-- What a frame's CRC reader over a mutable reference did, in terms of the borrowed reader.
pub mod FrameCrcOverBorrow
-- The clauses of a call that reads the next frame, if there is one.
pub mod FramePromises
-- What a header says of its block.
pub mod BlockInfo
-- The header that a frame begins with says how large its block is.
pub mod FrameHeaders
-- A frame that is read with its header.
pub mod DecodedFrames
-- A frame whose header was read: the header, the rest, and both together.
pub mod StartedFrames
-- The clauses of the calls that read a header, and the rest of its frame.
pub mod StartPromises
