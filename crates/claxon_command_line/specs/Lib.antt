pub mod Arguments
pub mod Progress
pub mod Text
pub mod Json
pub mod Names
pub mod Input
pub mod Folders
pub mod Messages
