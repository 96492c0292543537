-- What `HeadDecoder::decode_next` promises.
use Rattle.std.specs.Prelude.{
  ◌≡◌,
  ℕ,
  ◌+◌,
  ◌^◌,
  ◌<◌,
  Bool,
  true,
  false,
  List,
  drop,
  length,
  Result,
  Ok,
  Err,
}
use Rattle.claxon.specs.Error.{IsFault}
use Rattle.claxon.specs.Errors.{Error}
use Rattle.claxon.specs.Fault.{Fault}
use Rattle.claxon.specs.Metadata.{BlockHeader}
use Rattle.claxon.specs.MetadataBlock.{BlockHasBounds, content_view}
use Rattle.claxon.specs.Promises.{IsOutOfMemory}
use Rattle.claxon.specs.read.Reading.{Reading, Done, Faulty, Incomplete}
use Rattle.claxon_stream.specs.HeadPart.{
  HeadPart,
  MarkerPart,
  HeaderPart,
  BlockPart,
  EndPart,
  MayNeedMemory,
  part_at,
}
use Rattle.claxon_stream.specs.HeadState.{head_position, needs, state_after}
use Rattle.claxon_stream.specs.Held.{StandsIn, ends_there, held_from}
use Rattle.claxon_stream.specs.declared.head.HeadDecoder.{HeadDecoder}
use Rattle.claxon_stream.specs.declared.head.event.HeadEvent.{HeadEvent}
use Rattle.claxon_stream.specs.declared.head.event.HeadEvent.TheVariants.{
  Block,
  Cut,
  Faulty as FaultyHead,
  Header,
  Marker,
  ReadOn,
  Whole,
}
use Rattle.claxon_stream.specs.declared.head.event.MetadataBlockHeader.{MetadataBlockHeader}

-- The caller's positions are those of a file.
abbrev pub PositionFits : ℕ → Type 0
PositionFits position = position < 2 ^ 63

-- the header that is answered, as the format has it
abbrev pub shown_header : MetadataBlockHeader → BlockHeader
shown_header h = record { is_last = h.is_last; type = h.block_type; length = h.length }

-- of a decoder, the bytes from its position on, and whether the stream ends with them
module _ (s : HeadDecoder) (bytes : List ℕ) (ends : Bool) where
  -- what the bytes begin with
  abbrev pub next_part : Reading ℕ HeadPart
  next_part = part_at s.next s.rules bytes

  -- It is this part, and the decoder moves after it.
  abbrev pub Finds : HeadPart → HeadDecoder → Type 0
  Finds part new = (rest : List ℕ) × (next_part ≡ Done part rest) × (new ≡ state_after s part)

  -- What is answered, and the decoder after it: the part; that the head is whole; the fault that
  -- the bytes begin with; the bytes are too few, and the stream ends; or they are fewer than are
  -- needed, and the stream may go on. `OutOfMemory` is returned only for the content of an
  -- application or comment block of a valid length.
  abbrev pub HeadEventIs : {A : Type 0} → Result (HeadEvent A) Error → HeadDecoder → Type 0
  HeadEventIs (Ok Marker) new = Finds MarkerPart new
  HeadEventIs (Ok (Header h)) new =
      Finds (HeaderPart (shown_header h)) new × (h.position ≡ s.position + needs s)
  HeadEventIs (Ok (Block block)) new = Finds (BlockPart (content_view block)) new
  HeadEventIs (Ok (Whole at)) new = Finds EndPart new × (at ≡ s.position)
  HeadEventIs (Ok (FaultyHead fault)) new =
      (fault.position ≡ s.begin) × ((f : Fault) × (rest : List ℕ) × IsFault f fault.error
      × (next_part ≡ Faulty f rest)) × (new ≡ s)
  HeadEventIs (Ok (Cut at)) new =
      (at ≡ s.begin) × (ends ≡ true) × (next_part ≡ Incomplete) × (new ≡ s)
  HeadEventIs (Ok (ReadOn needed)) new =
      (needed.position ≡ s.position) × (needed.count ≡ needs s) × (ends ≡ false)
      × (length bytes < needs s) × (new ≡ s)
  HeadEventIs {A} (Err e) new =
      IsOutOfMemory {A = HeadEvent A} (Err e) × MayNeedMemory s.next bytes × (new ≡ s)

-- It is one of the stream, and not `ReadOn` or an Err.
abbrev pub IsHeadAnswer : {A : Type 0} → Result (HeadEvent A) Error → Type 0
IsHeadAnswer (Ok (ReadOn needed)) = ⊥
IsHeadAnswer (Ok _) = Unit {0}
IsHeadAnswer (Err e) = ⊥

-- The clauses. `old` and `new` are the decoder before and after the call.
module _ {A : Type 0} (at : ℕ) (bytes : List ℕ) (is_end : Bool) (old : HeadDecoder)
    (result : Result (HeadEvent A) Error) (new : HeadDecoder) where
  -- What is answered stands at the position, and the decoder moves after it.
  abbrev pub HeadEventIsSound : Type 0
  HeadEventIsSound =
      HeadEventIs old (held_from at (head_position old) bytes)
      (ends_there at (head_position old) is_end) result new

  -- Of each stream in which the bytes stand, an answer other than `ReadOn` is what stands there in
  -- all its bytes. So it doesn't matter where the stream is cut.
  abbrev pub HeadEventIsOfStream : Type 0
  HeadEventIsOfStream = (stream : List ℕ) → StandsIn stream at bytes is_end → IsHeadAnswer result
      → HeadEventIs old (drop (head_position old) stream) true result new

-- A block that is answered is in the bounds of the format.
abbrev pub EventHasBounds : {A : Type 0} → Result (HeadEvent A) Error → Type 0
EventHasBounds (Ok (Block block)) = BlockHasBounds block
EventHasBounds _ = Unit {0}
