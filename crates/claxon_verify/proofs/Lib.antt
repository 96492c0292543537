-- Frames and faults, one after another.
pub mod FramesAndFaults
-- The block sizes of a stream.
pub mod BlockSizes
-- A stream has no place exactly where its frames are in order, and no more than they should be.
pub mod RightPlaces
-- What is noted of frames and faults, one after another.
pub mod Noting
-- Frames and faults that are found, one after another.
pub mod Walking
-- A whole stream: its head, and what was found after it.
pub mod Verified
-- The notes of a whole stream.
pub mod Noted
-- What is noted of parts, one after another.
pub mod PartsNoted
-- Parts of a stream that are found, one after another.
pub mod PartsWalked
-- Why parts of a stream aren't all found.
pub mod PartsStopped
-- A whole stream that is verified by its parts.
pub mod PartsVerified
-- Bytes that have the same bits.
pub mod SameBytes
-- What is kept of bytes that are no frame.
pub mod Tails
-- Bytes that begin with the sync code of a frame, or with none.
pub mod SyncCodes
-- Bytes from the place on that goes on, one part after another.
pub mod Trailed
-- What stands after the last frame of a stream that is verified by its parts.
pub mod PartsTrailed
-- The first bytes of a fault.
pub mod FaultBytes
-- What stands after the last frame of a stream that is verified frame by frame.
pub mod FramesTrailed
-- Frames that are verified alone, as those of a stream whose head can't be read.
pub mod FramesVerified
