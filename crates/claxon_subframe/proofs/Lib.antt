-- Shifts and masks by a partition order.
pub mod PartitionLengths
-- The residual samples of an escaped partition.
pub mod EscapedPartitions
-- A Rice code's number by shifts and an or, and zigzag decoding.
pub mod RiceCodeShifts
-- 64 bits that are rotated.
pub mod Rotations
-- The first Rice code of 64 bits.
pub mod FirstRiceCode
-- Consecutive fields of one type, decoded from the buffered bits.
pub mod BufferedFields
-- Sign extension by shifts.
pub mod SignExtension
-- The first unencoded sample of 64 bits.
pub mod FirstSample
-- Values decoded from 64 bits that are rotated past each value.
pub mod ValueGroups
-- Buffered bits that are decoded first and then skipped.
pub mod SkippedBits
-- The residual samples of consecutive partitions.
pub mod JoinedPartitions
-- Consecutive partitions read into one slice.
pub mod PartitionLoop
-- The Rice parameter of a partition, and what follows it.
pub mod PartitionParameter
-- Partitions decoded from the buffered bits.
pub mod BufferedPartitions
-- The subframe types by their numbers.
pub mod SubframeTypeNumbers
-- Wasted bits appended by a shift.
pub mod WastedBits
-- A channel from the samples of its subframe, before wasted bits are appended.
pub mod ScaledSamples
-- A fixed predictor of order 0: the residual samples are the samples.
pub mod OrderZero
-- A field of consecutive fields, read by one call each: after a call the other fields are left,
-- and where a call fails the whole fails.
pub mod ConsecutiveFields
-- The fields of a predicted subframe: warm-up samples, coefficients and residual; and the
-- samples restored in place.
pub mod PredictedSubframes
-- A loop that restores samples in place, with the newest ones in variables.
pub mod RestoreLoop
-- Predictors: a loop's step in place, and sums of products.
pub mod Predictors
-- Four lanes: what each operation on them computes.
pub mod Lanes
-- Coefficients padded to n numbers with zeros before them, and the first n samples.
pub mod PaddedCoefficients
-- Pending sums, and samples from them.
pub mod PendingSums
-- A loop that restores samples two at a time, with the newest five in variables.
pub mod RestoreLoopByTwo
-- A predictor that restores samples two at a time.
pub mod PredictorState
-- Twelve numbers in three vectors.
pub mod TwelveLanes
-- Lanes of 16 and 32 bits, and pending sums of samples of 16 bits.
pub mod Pairs
-- Samples of which some stand already at the front.
pub mod RestoredFront
