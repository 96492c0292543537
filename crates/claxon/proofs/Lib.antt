-- Lemmas of the crates below, for callers' proofs.
pub use Rattle.claxon_input.proofs.ConsecutiveCalls
pub use Rattle.claxon_input.proofs.ByteAlignment
pub use Rattle.claxon_input.proofs.ByteFields
pub use Rattle.claxon_input.proofs.RunningReaders
pub use Rattle.claxon_input.proofs.CrcUpdate
pub use Rattle.claxon_input.proofs.Faults
pub use Rattle.claxon_format.proofs.Streams
pub use Rattle.claxon_format.proofs.FormatLaws
pub use Rattle.claxon_format.proofs.FrameLengths
pub use Rattle.claxon_format.proofs.Bytes
pub use Rattle.claxon_format.proofs.ByteNumbers
pub use Rattle.claxon_format.proofs.CodedNumber
pub use Rattle.claxon_format.proofs.Comments
pub use Rattle.claxon_format.proofs.CrcBytes
pub use Rattle.claxon_format.proofs.Laws
pub use Rattle.claxon_format.proofs.Metadata
pub use Rattle.claxon_format.proofs.Numbers
pub use Rattle.claxon_input.proofs.InMemory
pub use Rattle.claxon_input.proofs.CacheBits
pub use Rattle.claxon_frame.proofs.BlockInfo
pub use Rattle.claxon_frame.proofs.FrameHeaders
pub use Rattle.claxon_frame.proofs.DecodedFrames
pub use Rattle.claxon_frame.proofs.StartedFrames
-- Where the reader of a head can run out of memory: before that, the marker and whole blocks
-- were consumed.
pub mod HeadMemory
-- The reader of a head, in the steps of the code.
pub mod HeadParts
-- The fault that an Err names, by its text.
pub mod ErrorTexts
-- The samples of a block, one by one.
pub mod SamplesInTurn
-- A reader of which nothing was read, in a byte buffer.
pub mod Opening
-- Results that are `OutOfMemory`.
pub mod OutOfMemory
-- Blocks that are read one after another, and the samples that calls gave of them.
pub mod SampleRuns
-- The answer of a call that reads a frame of bytes in memory.
pub mod FramesInMemory
-- Samples that are stored interleaved, by index.
pub mod Interleaving
-- Reads through a mutable reference.
pub mod Loans
