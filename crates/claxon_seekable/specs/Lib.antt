pub mod Memory
pub mod Searches
pub mod SeekableReader
pub mod Source
pub mod SourceFrames
pub mod Window
