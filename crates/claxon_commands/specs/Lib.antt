pub mod WavStatus
