-- Frames of a stream, and where they stand.
mod PlacedFrames
-- Frames in order, by their numbers.
mod Numbers
-- Frames whose blocks have one size.
mod Sizes
