-- Silence, as blocks of zeros and as bytes.
pub mod Silence
-- What is written of a damaged stream, step by step.
pub mod Rescuing
-- Samples that are missing, and the silence that is written for them.
pub mod Gaps
-- Frames that are written at their times, and those that are not.
pub mod Placed
-- Frames that waited, and what they give.
pub mod Waited
-- What the parts of a damaged stream give, one after another.
pub mod RescuedParts
-- Files of damaged streams, finished.
pub mod RescuedFiles
