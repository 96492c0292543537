-- What calls return for the head at the start of bytes.
use Rattle.std.proofs.Common.{◌≡◌, inl, inr, ℕ, true, List, nat_le, Option, Some, refl, ◌∙◌, rules, Global}
use Rattle.std.specs.Prelude.{Ok, Err}
use Rattle.claxon.specs.Heads.{Head, HeadCode, HeadFault}
use Rattle.claxon.specs.Streams.{stream_of, with_samples}
use Rattle.claxon.specs.Errors.{Error}
use Rattle.claxon.specs.MetadataBlock.{HasBounds, info_view}
use Rattle.claxon.specs.StreamInfos.{StreamInfo}
use Rattle.claxon.specs.VorbisComments.{VorbisComment}
use Rattle.claxon.specs.ReadHead.{found_view, head_view}
use Rattle.claxon.specs.Prefix.{BeginsWith}
use Rattle.claxon.proofs.OutOfMemory.{not_out_of_memory}
use Rattle.claxon_seek.specs.AtStart.{BeginsWithLength, HeadAtStart}
use Rattle.claxon_c.specs.declared.heads.ClaxonInfo.{ClaxonInfo}
use Rattle.claxon_c.specs.HeadCalls.{CHeadFaultIsComplete, CHeadFaultIsSound, CHeadElseIoError, ShowsHead, CHeadOutOfMemoryAfterHeader, tag_count}
use Rattle.claxon_c.specs.Info.{InfoShows, known_stream}
use Rattle.claxon_c.specs.Status.{ErrorIsReported, out_of_memory}
use Rattle.claxon_c.proofs.Reports.{each_fault_reported, io_error_reported, fault_reported, error_out_of_memory, out_of_memory_reported}

module _ {A : Type 0} (view : StreamInfo × Option A → Head) (bytes : List ℕ) (taken status : ℕ) (old new : List ℕ) where
  -- there is none
  module _ (e : Error) (h : HeadAtStart view bytes (Err e) taken) (reported : ErrorIsReported e status old new) where
    pub head_fault : CHeadFaultIsSound bytes status old new
    head_fault = fault_reported status old new bytes (λ f. HeadFault (with_samples true) f) e reported h.fault

    pub head_named : CHeadFaultIsComplete bytes status old new
    head_named f begins = each_fault_reported status old new bytes (λ f. HeadFault (with_samples true) f) e reported {A = StreamInfo × Option A} f (h.named f begins)

    pub head_io : CHeadElseIoError bytes status
    head_io n = io_error_reported status old new bytes (λ f. HeadFault (with_samples true) f) e reported h.fault n

    pub head_memory : CHeadOutOfMemoryAfterHeader bytes status
    head_memory is = h.memory (error_out_of_memory status old new bytes (λ f. HeadFault (with_samples true) f) e reported is)

    pub head_out_of_memory : (head : Head) → BeginsWith (HeadCode (with_samples true) head) bytes → status ≡ out_of_memory
    head_out_of_memory head begins = elim (h.complete head begins) [ inl p ↦ absurd p | inr s ↦ out_of_memory_reported status old new bytes (λ f. HeadFault (with_samples true) f) e reported s ]

  -- there is this one
  module _ (z : StreamInfo × Option A) (h : HeadAtStart view bytes (Ok z) taken) where
    pub head_begins : BeginsWith (HeadCode (with_samples true) (view z)) bytes
    head_begins = (h.sound.0, h.sound.1, h.sound.2, h.sound.3)

    pub same_head : (head : Head) → BeginsWith (HeadCode (with_samples true) head) bytes → view z ≡ head
    same_head head begins = elim (h.complete head begins) [ inl p ↦ p | inr s ↦ absurd (not_out_of_memory z s) ]

    pub no_head_fault : CHeadFaultIsComplete bytes status old new
    no_head_fault f begins = absurd (elim (h.named f begins) [ inl p ↦ p | inr s ↦ not_out_of_memory z s ])

    pub head_io_ok : CHeadElseIoError bytes status
    head_io_ok n = absurd (n.no_code (view z) h.sound.0 h.sound.1 h.sound.2 h.sound.3)

-- ---- what is shown of it

pub known : (found : StreamInfo) (info : ClaxonInfo) (tags taken : ℕ) → InfoShows found tags taken info → HasBounds found → known_stream info ≡ Some (stream_of (info_view found))
known found info tags taken shows bounds =
    let some : nat_le 1 found.bits_per_sample ≡ true = search (rules, bounds.some_bits) in
    let most : nat_le found.bits_per_sample 32 ≡ true = search (rules, bounds.bits) in
    rw (shows.bit_depth, shows.min_block_size, shows.max_block_size, some, most) refl

pub shows_head : (found : StreamInfo) (comment : Option (VorbisComment Global)) (info : ClaxonInfo) (tags taken : ℕ) → InfoShows found tags taken info → tags ≡ tag_count (found_view comment) → HasBounds found
    → ShowsHead (head_view (found, comment)) info.first_frame info
shows_head found comment info tags taken shows count bounds = record {
  first_frame = refl;
  tags = shows.tags_are ∙ count;
  samples = shows.samples;
  rate = shows.rate;
  channels = shows.channels;
  bit_depth = shows.bit_depth;
  min_block_size = shows.min_block_size;
  max_block_size = shows.max_block_size;
  min_frame_size = shows.min_frame_size;
  max_frame_size = shows.max_frame_size;
  md5 = shows.md5;
  stream = known found info tags taken shows bounds;
}

-- the head is the bytes before the first frame
pub head_at_first_frame : (found : StreamInfo) (comment : Option (VorbisComment Global)) (bytes : List ℕ) (info : ClaxonInfo) (taken : ℕ) → HeadAtStart (head_view {A = Global}) bytes (Ok (found, comment)) taken → info.first_frame ≡ taken
    → BeginsWithLength (HeadCode (with_samples true) (head_view {A = Global} (found, comment))) bytes info.first_frame
head_at_first_frame found comment bytes info taken h first = (h.sound.0, h.sound.1, h.sound.2, h.sound.3, first ∙ h.sound.4)
