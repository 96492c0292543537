-- What a call returns for the frame at a position.
pub mod BlockCalls
-- The content of a metadata block in memory.
pub mod BlockContents
-- What calls return that are passed the content of a metadata block.
pub mod ContentCalls
-- What calls return for the head at the start of bytes.
pub mod HeadCalls
-- The CRC of bytes after others.
pub mod CrcCalls
-- The header of a metadata block, as a number of 32 bits.
pub mod NextMetadata
-- The status and the text that report an error.
pub mod Reports
-- The header of a frame that bytes in memory begin with.
pub mod HeadersAtStart
-- What the calls return that find a frame in bytes, or seek to a sample.
pub mod SeekCalls
-- What the call returns that seeks to a sample and decodes its block.
pub mod SeekBlockCalls
-- Numbers of samples, stored one after another.
pub mod NumbersStored
-- Samples of one channel after another.
pub mod PlanarSamples
-- The same samples, interleaved.
pub mod PlanarHashing
-- What calls return for the next tag in the content of a Vorbis comment block.
pub mod TagCalls
-- Entries of Vorbis comments in memory, one by one.
pub mod TagEntries
-- The reader of the next tag takes just what the definitions say.
pub mod TagsRead
-- What the calls answer for streams in pieces.
pub mod StreamCalls
-- The next frame of a stream in pieces.
pub mod NextFrames
