pub mod AtStart
pub mod BlockMemory
pub mod Find
pub mod Likely
pub mod Seek
pub mod SeekBlock
