-- What calls return that read the head at the start of bytes. No read of bytes in memory fails,
-- so the only excuse is `out_of_memory`.
use Rattle.std.specs.Prelude.{◌≡◌, ◌≢◌, ◌⊎◌, ℕ, true, List, length, Option, None, Some}
use Rattle.claxon.specs.Comments.{Comment}
use Rattle.claxon.specs.Fault.{Fault}
use Rattle.claxon.specs.Heads.{Head, HeadCode, HeadFault, Marker, stream_marker}
use Rattle.claxon.specs.Streams.{stream_of, with_samples}
use Rattle.claxon.specs.Promises.{HasNeither}
use Rattle.claxon.specs.ReadHead.{MemoryMayBeNeeded}
use Rattle.claxon.specs.Prefix.{BeginsWith}
use Rattle.claxon_seek.specs.AtStart.{BeginsWithLength}
use Rattle.claxon_c.specs.declared.heads.ClaxonInfo.{ClaxonInfo}
use Rattle.claxon_c.specs.Info.{known_stream}
use Rattle.claxon_c.specs.Status.{FaultIsReported, IsFaultStatus, input_ends, ok, out_of_memory}

-- the number of tags
abbrev pub tag_count : Option Comment → ℕ
tag_count None = 0
tag_count (Some comment) = length comment.entries

-- It shows this head, the number of its bytes, and what its frames need to know.
pub record ShowsHead (h : Head) (count : ℕ) (info : ClaxonInfo) : Type 0 where
  pub first_frame : info.first_frame ≡ count
  pub tags : info.tags ≡ tag_count h.comment
  pub samples : info.samples ≡ h.info.samples
  pub rate : info.sample_rate ≡ h.info.rate
  pub channels : info.channels ≡ h.info.channels
  pub bit_depth : info.bits_per_sample ≡ h.info.bit_depth
  pub min_block_size : info.min_block_size ≡ h.info.min_block_size
  pub max_block_size : info.max_block_size ≡ h.info.max_block_size
  pub min_frame_size : info.min_frame_size ≡ h.info.min_frame_size
  pub max_frame_size : info.max_frame_size ≡ h.info.max_frame_size
  pub md5 : info.md5 ≡ h.info.md5
  pub stream : known_stream info ≡ Some (stream_of h.info)

-- The info is changed by `ok` alone.
abbrev pub InfoIsKept : ℕ → ClaxonInfo → ClaxonInfo → Type 0
InfoIsKept status old new = status ≢ ok → new ≡ old

module _ (bytes : List ℕ) (status : ℕ) where
  -- With `ok` the bytes begin with the head that is shown.
  abbrev pub COpenIsSound : ClaxonInfo → Type 0
  COpenIsSound info =
      status ≡ ok
      → (h : Head) × BeginsWithLength (HeadCode (with_samples true) h) bytes info.first_frame
      × ShowsHead h info.first_frame info

  -- A head that the bytes begin with is shown, or the status is `out_of_memory`.
  abbrev pub COpenIsComplete : ClaxonInfo → Type 0
  COpenIsComplete info =
      (h : Head) → BeginsWith (HeadCode (with_samples true) h) bytes
      → ((status ≡ ok) × ShowsHead h info.first_frame info) ⊎ (status ≡ out_of_memory)

  -- The status of a fault reports one that the bytes begin with; its text is written to `new`.
  abbrev pub CHeadFaultIsSound : List ℕ → List ℕ → Type 0
  CHeadFaultIsSound old new =
      IsFaultStatus status
      → (f : Fault) × BeginsWith (HeadFault (with_samples true) f) bytes
      × FaultIsReported f status old new

  -- A fault that the bytes begin with is reported, or the status is `out_of_memory`.
  abbrev pub CHeadFaultIsComplete : List ℕ → List ℕ → Type 0
  CHeadFaultIsComplete old new =
      (f : Fault) → BeginsWith (HeadFault (with_samples true) f) bytes
      → FaultIsReported f status old new ⊎ (status ≡ out_of_memory)

  -- Where they begin with neither the status is `input_ends` or `out_of_memory`.
  abbrev pub CHeadElseIoError : Type 0
  CHeadElseIoError =
      HasNeither (HeadCode (with_samples true)) (HeadFault (with_samples true)) bytes
      → (status ≡ input_ends) ⊎ (status ≡ out_of_memory)

  -- `out_of_memory` only for an application or comment block.
  abbrev pub CHeadOutOfMemoryAfterHeader : Type 0
  CHeadOutOfMemoryAfterHeader =
      status ≡ out_of_memory → MemoryMayBeNeeded (Marker stream_marker) bytes
