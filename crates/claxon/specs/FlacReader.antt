-- Views of a `FlacReader` for contracts, and what it lends.
use Rattle.std.specs.Prelude.{Bool, ℕ, Option, List}
use Rattle.std.specs.declared.alloc.Allocator.{Ghosts}
use Rattle.std.specs.Borrow.{Lends, MutBor, Fml, RattleType}
use Rattle.claxon_input.specs.declared.input.BufferedReader.{BufferedReader}
use Rattle.claxon_input.specs.contracts.input.BufferedReader.{the_row as buffered-row}
use Rattle.claxon.specs.declared.reader.FlacReader.{FlacReader}
use Rattle.claxon.specs.declared.samples.FlacSamples.{FlacSamples}
use Rattle.claxon_frame.specs.declared.frame.FrameReader.{FrameReader}
use Rattle.claxon_frame.specs.FrameReader.{frame_input}
use Rattle.claxon_metadata.specs.declared.metadata.streaminfo.StreamInfo.{StreamInfo}
use Rattle.claxon_format.specs.Heads.{Head}
use Rattle.claxon.specs.ShownHead.{head_streaminfo, head_tags, head_vendor, shown_view}
use Rattle.claxon.specs.contracts.reader.FlacReader.{the_row}

-- `flac.is_metadata_only()`
abbrev pub flac_metadata_only : {R A : Type 0} → FlacReader R A → Bool
flac_metadata_only s = s.metadata_only

-- `flac.streaminfo()`
abbrev pub flac_streaminfo : {R A : Type 0} → FlacReader R A → StreamInfo
flac_streaminfo s = head_streaminfo s.head

-- the head of the stream, as far as it is shown
abbrev pub flac_head : {R A : Type 0} → FlacReader R A → Head
flac_head s = shown_view s.head

-- the vendor string that is shown
abbrev pub vendor_of : {R A : Type 0} → FlacReader R A → Option (List ℕ)
vendor_of s = head_vendor s.head

-- the names and values of the tags that are shown
abbrev pub tags_of : {R A : Type 0} → FlacReader R A → List (List ℕ × List ℕ)
tags_of s = head_tags s.head

-- its byte buffer
abbrev pub flac_input : {R A : Type 0} → FlacReader R A → BufferedReader R A
flac_input s = s.input

-- the same reader over another byte buffer
abbrev pub with_input : {R A : Type 0} → FlacReader R A → BufferedReader R A → FlacReader R A
with_input s w = record s { input = w }

-- the input of the samples
abbrev pub samples_input : {R A : Type 0} → FlacSamples R A → R
samples_input s = frame_input s.frame_reader

-- When the borrow ends, the reader has the byte buffer that the reference left.
abbrev pub LendsInput : (R Z : RattleType) (z : Ghosts Z.Denot)
    → MutBor (FlacReader R.Denot Z.Denot) → MutBor (BufferedReader R.Denot Z.Denot) → Fml
LendsInput R Z z s r = Lends (the_row R Z z) (buffered-row R Z z) s r (with_input s.now)

-- When the borrow ends, the reader has the byte buffer that the frame reader left.
abbrev pub LendsBlocks : (R Z : RattleType) (z : Ghosts Z.Denot)
    → MutBor (FlacReader R.Denot Z.Denot) → FrameReader (MutBor (BufferedReader R.Denot Z.Denot))
    → Fml
LendsBlocks R Z z s r = LendsInput R Z z s (frame_input r)

-- When the borrow ends, the reader has the byte buffer that the samples left.
abbrev pub LendsSamples : (R Z : RattleType) (z : Ghosts Z.Denot)
    → MutBor (FlacReader R.Denot Z.Denot)
    → FlacSamples (MutBor (BufferedReader R.Denot Z.Denot)) Z.Denot → Fml
LendsSamples R Z z s r = LendsInput R Z z s (samples_input r)
