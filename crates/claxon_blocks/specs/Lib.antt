pub mod FirstBytes
pub mod Frames
pub mod HashBlock
pub mod Md5Verdict
