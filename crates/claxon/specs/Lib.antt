pub use Rattle.claxon_format.specs.Bits
pub use Rattle.claxon_format.specs.Comments
pub use Rattle.claxon_format.specs.Codes
pub use Rattle.claxon_format.specs.Crc
pub use Rattle.claxon_format.specs.Metadata
pub use Rattle.claxon_format.specs.MetadataBlocks
pub use Rattle.claxon_format.specs.Streaminfo
pub use Rattle.claxon_format.specs.read
pub use Rattle.claxon_metadata.specs.declared.metadata.VorbisComment as VorbisComments
pub use Rattle.claxon_format.specs.Fault
pub use Rattle.claxon_format.specs.Frame
pub use Rattle.claxon_format.specs.Header
pub use Rattle.claxon_format.specs.Heads
pub use Rattle.claxon_format.specs.Streams
pub use Rattle.claxon_input.specs.Source
pub use Rattle.claxon_input.specs.Cursor
pub use Rattle.claxon_input.specs.RunningReader
pub use Rattle.claxon_input.specs.CrcUpdate
pub use Rattle.claxon_input.specs.declared.running.RunningReader as RunningReaders
pub use Rattle.claxon_input.specs.BufferedReader
pub use Rattle.claxon_input.specs.Error
pub use Rattle.claxon_input.specs.declared.error.Error as Errors
pub use Rattle.claxon_input.specs.declared.input.BufferedReader as BufferedReaders
pub use Rattle.claxon_input.specs.State
pub use Rattle.claxon_input.specs.Gives
pub use Rattle.claxon_input.specs.Promises
pub use Rattle.claxon_metadata.specs.declared.metadata.streaminfo.StreamInfo as StreamInfos
pub use Rattle.claxon_metadata.specs.VorbisComment
pub use Rattle.claxon_metadata.specs.TagEntries
pub use Rattle.claxon_metadata.specs.Tags
pub use Rattle.claxon_metadata.specs.MetadataBlock
pub use Rattle.claxon_metadata.specs.ReadMetadataBlock
pub use Rattle.claxon_metadata.specs.declared.metadata.MetadataBlock as MetadataBlockVariants
pub use Rattle.claxon_metadata.specs.MetadataBlockReader
pub use Rattle.claxon_frame.specs.Block
pub use Rattle.claxon_frame.specs.FrameReader
pub use Rattle.claxon_frame.specs.BlockInfo
pub use Rattle.claxon_frame.specs.Prefix
pub use Rattle.claxon_frame.specs.DecodedFrame
pub use Rattle.claxon_frame.specs.StartedFrame
pub use Rattle.claxon_frame.specs.declared.frame.FrameReader as FrameReaders
pub use Rattle.claxon_frame.specs.declared.frame.info.BlockInfo as BlockInfos
pub use Rattle.claxon_frame.specs.declared.frame.decoded.DecodedFrame as DecodedFrames
pub use Rattle.claxon_frame.specs.declared.frame.started.StartedFrame as StartedFrames
pub use Rattle.claxon_frame.specs.Decorrelation
pub mod ReadHead
pub mod ShownHead
pub mod FlacReader
pub mod Opening
pub mod FlacSamples
pub mod SampleRuns
pub mod OtherErrors
pub mod Interleave
pub mod FramesInMemory
