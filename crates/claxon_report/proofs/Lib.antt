-- The parts that are found, one after another, and their places.
pub mod Scanning
-- Places that are kept, one after another.
pub mod Keeping
