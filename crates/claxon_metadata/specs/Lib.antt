pub mod VorbisComment
pub mod MetadataBlockReader
pub mod MetadataBlock
pub mod ReadMetadataBlock
pub mod TagEntries
pub mod Tags
