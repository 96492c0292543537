pub mod FramesAlone
pub mod Notes
pub mod PartFaults
pub mod RightStream
pub mod Trailing
pub mod VerifiedParts
pub mod Verify
pub mod Walk
