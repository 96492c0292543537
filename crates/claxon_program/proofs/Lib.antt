-- Text that was put, and the flush after it failed.
mod Flushing
-- A text that is printed is the one that was asked for.
pub mod Printing
