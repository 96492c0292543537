-- Where frames begin in time.
pub mod Timelines
-- What a clock tells of a stream, and what it learns.
pub mod Clocks
-- What a search passes, byte by byte, and what it answers.
pub mod Passing
-- What a seek answers, and what that says.
pub mod SeekAnswers
-- The bytes that a search has passed in one call.
pub mod Searched
-- The frame to which headers led.
pub mod Likely
