-- What bytes in memory begin with, and how many bytes it has.
pub mod AtStart
-- The header of a frame that bytes in memory begin with.
pub mod HeadersAtStart
-- A frame header begins with a sync code and a reserved bit of 0.
pub mod SyncCode
-- A search for a frame, position by position.
pub mod Searches
-- A frame with a sample at a position, and its block.
pub mod BlockSearches
-- Requests for memory that were refused.
pub mod BlockMemories
-- The clauses of a search, from all that it answers.
pub mod FindCalls
