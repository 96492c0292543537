-- What the calls answer that read the head of a stream in bytes that are handed in: the events of
-- `HeadDecoder::decode_next`.
use Rattle.std.specs.Prelude.{
  ◌≡◌,
  ℕ,
  ◌+◌,
  true,
  false,
  List,
  codes,
  length,
  Result,
  Ok,
  Err,
}
use Rattle.std.specs.Global.{Global}
use Rattle.claxon.specs.Crc.{bit}
use Rattle.claxon.specs.Errors.{Error}
use Rattle.claxon.specs.MetadataBlockVariants.{MetadataBlock}
use Rattle.claxon.specs.MetadataBlockVariants.TheVariants.{StreamInfo, VorbisComment}
use Rattle.claxon.specs.VorbisComment.{comment_view}
use Rattle.claxon_stream.specs.HeadDecoder.{
  EventHasBounds,
  HeadEventIsOfStream,
  HeadEventIsSound,
  PositionFits,
}
use Rattle.claxon_stream.specs.HeadState.{new_head}
use Rattle.claxon_stream.specs.KeptHead.{kept_decoder}
use Rattle.claxon_stream.specs.declared.head.HeadDecoder.{HeadDecoder}
use Rattle.claxon_stream.specs.declared.head.event.HeadEvent.{HeadEvent}
use Rattle.claxon_stream.specs.declared.head.event.HeadEvent.TheVariants.{
  Block,
  Cut,
  Faulty,
  Header,
  Marker,
  ReadOn,
  Whole,
}
use Rattle.claxon_stream.specs.declared.head.event.MetadataBlockHeader.{MetadataBlockHeader}
use Rattle.claxon_c.specs.declared.head.ClaxonHead.{ClaxonHead}
use Rattle.claxon_c.specs.declared.heads.ClaxonInfo.{ClaxonInfo}
use Rattle.claxon_c.specs.declared.metadata.ClaxonMetadata.{ClaxonMetadata}
use Rattle.claxon_c.specs.HeldBytes.{PositionIsReported, says_yes}
use Rattle.claxon_c.specs.Info.{InfoShows}
use Rattle.claxon_c.specs.Status.{ErrorIsReported, TextIsPut, input_ends, need_more, no_more, ok}

-- the numbers of the parts of a head
abbrev pub marker_part : ℕ
marker_part = 0

abbrev pub header_part : ℕ
header_part = 1

abbrev pub content_part : ℕ
content_part = 2

-- This decoder is kept, with how many bytes are needed and which part was read last.
pub record Keeps (decoder : HeadDecoder) (needed part : ℕ) (head : ClaxonHead) : Type 0 where
  pub decoder_is : kept_decoder head.kept ≡ decoder
  pub needed_is : head.needed ≡ needed
  pub part_is : head.part ≡ part

-- It begins at the position, as with `HeadDecoder::new` for all metadata.
abbrev pub HeadBegins : ℕ → ClaxonHead → Type 0
HeadBegins position new =
    Keeps (new_head position (record { metadata_only = false; read_vorbis_comment = true })) 0
    marker_part new

-- what is shown of the header of a metadata block
abbrev pub shown_metadata : MetadataBlockHeader → ClaxonMetadata
shown_metadata h = record {
  content = h.position;
  length = h.length;
  block_type = h.block_type;
  is_last = bit h.is_last;
}

-- the info with another number of tags, or with another position of the first frame
abbrev pub with_numbers : ℕ → ℕ → ClaxonInfo → ClaxonInfo
with_numbers first_frame tags info = record {
  first_frame = first_frame;
  tags = tags;
  samples = info.samples;
  sample_rate = info.sample_rate;
  channels = info.channels;
  bits_per_sample = info.bits_per_sample;
  min_frame_size = info.min_frame_size;
  max_frame_size = info.max_frame_size;
  min_block_size = info.min_block_size;
  max_block_size = info.max_block_size;
  md5 = info.md5;
}

-- A streaminfo is shown, or how many tags there are.
abbrev pub ShowsContent : {A : Type 0} → MetadataBlock A → ClaxonInfo → ClaxonInfo → Type 0
ShowsContent (StreamInfo found) old new = InfoShows found 0 0 new
ShowsContent (VorbisComment comment) old new =
    new ≡ with_numbers old.first_frame (length (comment_view comment).entries) old
ShowsContent _ old new = new ≡ old

-- by the bytes that stand at the position `at`, and end the stream if `is_end` isn't 0
module _ (at : ℕ) (bytes : List ℕ) (is_end : ℕ) where
  -- The event and the decoder after it have the clauses of `HeadDecoder::decode_next`.
  pub record IsNextPart (old : HeadDecoder) (event : Result (HeadEvent Global) Error)
      (new : HeadDecoder) : Type 0 where
    pub is_sound : HeadEventIsSound at bytes (says_yes is_end) old event new
    pub is_of_stream : HeadEventIsOfStream at bytes (says_yes is_end) old event new
    pub has_bounds : EventHasBounds event

  -- of the state, the info, the metadata and the text before and after the call
  module _ (old : ClaxonHead) (status : ℕ) (new : ClaxonHead) (info shown : ClaxonInfo)
      (header metadata : ClaxonMetadata) (before after : List ℕ) where
    -- The info, the metadata and the text stay as they are.
    abbrev pub InfoStays : Type 0
    InfoStays = shown ≡ info

    abbrev pub MetadataStays : Type 0
    MetadataStays = metadata ≡ header

    abbrev pub TextStays : Type 0
    TextStays = after ≡ before

    -- what is shown of an event
    abbrev pub ShowsPart : Result (HeadEvent Global) Error → HeadDecoder → Type 0
    ShowsPart (Ok Marker) next =
        (status ≡ ok) × Keeps next 0 marker_part new × InfoStays × MetadataStays × TextStays
    ShowsPart (Ok (Header h)) next =
        (status ≡ ok) × Keeps next 0 header_part new × InfoStays
        × (metadata ≡ shown_metadata h) × TextStays
    ShowsPart (Ok (Block block)) next =
        (status ≡ ok) × Keeps next 0 content_part new × ShowsContent block info shown
        × MetadataStays × TextStays
    ShowsPart (Ok (Whole position)) next =
        (status ≡ no_more) × Keeps next 0 old.part new
        × (shown ≡ with_numbers position info.tags info) × MetadataStays × TextStays
    ShowsPart (Ok (Faulty fault)) next =
        ErrorIsReported fault.error status before after × Keeps next 0 old.part new × InfoStays
        × MetadataStays
    ShowsPart (Ok (Cut position)) next =
        (status ≡ input_ends) × TextIsPut (codes "the bytes end") before after
        × Keeps next 0 old.part new × InfoStays × MetadataStays
    ShowsPart (Ok (ReadOn needed)) next =
        (status ≡ need_more) × Keeps next needed.count old.part new × InfoStays × MetadataStays
        × TextStays
    ShowsPart (Err e) next =
        ErrorIsReported e status before after × Keeps next 0 old.part new × InfoStays
        × MetadataStays

    -- The next event is shown.
    abbrev pub CHeadIsAnswered : Type 0
    CHeadIsAnswered =
        PositionFits (at + length bytes)
        → (event : Result (HeadEvent Global) Error) × (next : HeadDecoder)
        × IsNextPart (kept_decoder old.kept) event next × ShowsPart event next

-- Bytes up to the position 2^63 or after it are unsupported, and nothing but the text is changed.
abbrev pub CHeadTooFarIsUnsupported : ℕ → List ℕ → ClaxonHead → ℕ → ClaxonHead → ClaxonInfo
    → ClaxonInfo → ClaxonMetadata → ClaxonMetadata → List ℕ → List ℕ → Type 0
CHeadTooFarIsUnsupported at bytes old status new info shown header metadata before after =
    (PositionFits (at + length bytes) → ⊥)
    → PositionIsReported status before after × (new ≡ old) × (shown ≡ info)
    × (metadata ≡ header)
