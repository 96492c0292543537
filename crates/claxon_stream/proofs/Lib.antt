-- The frame that bytes in memory begin with, with what its header says.
pub mod FramesAtStart
-- What comes next in a stream, by the frame that its bytes begin with.
pub mod Events
-- The bytes of a stream that are held.
pub mod HeldBytes
-- At a position of a stream there is one answer.
pub mod OneAnswers
-- The end of a frame, by the CRC-16 of its bytes.
pub mod FrameEnds
-- What a decoder noted of a stream.
pub mod Notes
-- What a header says, and whether bytes begin with one.
pub mod HeadersSaid
-- What a fault costs.
pub mod Charges
-- What is answered where nothing is tried.
pub mod Waiting
-- A search for a frame, position by position.
pub mod Searching
-- A search for a frame, where a frame is tried.
pub mod TriedFrames
-- A search for a frame, where it stops at a position without a try.
pub mod SearchAnswers
-- From a position of a stream on a search has one answer.
pub mod OneFinds
-- Calls of a search, one after another.
pub mod FindChains
-- An answer of a search, beside that of `find_frame` over all bytes.
pub mod FindFrames
-- What is read of bytes in memory.
pub mod HeadReading
-- What is read of the content of a metadata block.
pub mod HeadContents
-- What is read of a part of a head.
pub mod HeadParts
-- How many bytes the parts of a head have.
pub mod HeadSizes
-- What is read of bytes is read of more bytes too.
pub mod HeadMoreBytes
-- What a decoder of heads answers, by the part that was read.
pub mod HeadEvents
-- At a position of a stream there is one answer in a head.
pub mod HeadOneAnswer
-- The rest of a head in each state of a decoder.
pub mod HeadRest
-- The answers of a decoder of heads, and what `read_head` returns.
pub mod HeadAnswers
