pub mod Md5
pub mod Sums
pub mod HasHashed
pub mod WholeBytes
pub mod HasherCalls
pub mod Planar
