pub mod Clock
pub mod Kept
pub mod Search
pub mod Seeker
pub mod SeekLaws
pub mod Sought
pub mod Timeline
