-- The state of a decoder of heads, and what it answers for a part.
use Rattle.std.specs.Prelude.{ℕ, ◌+◌, ◌^◌, ◌<◌, Bool, true, false, Result, Ok, Err, IfOk}
use Rattle.claxon.specs.Errors.{Error}
use Rattle.claxon.specs.Errors.TheVariants.{FormatError, IoError, OutOfMemory, Unsupported}
use Rattle.claxon.specs.Metadata.{BlockHeader}
use Rattle.claxon.specs.declared.head.FlacReaderOptions.{FlacReaderOptions}
use Rattle.claxon_stream.specs.HeadPart.{
  HeadPart,
  MarkerPart,
  HeaderPart,
  BlockPart,
  EndPart,
  part_needs,
  part_view,
  passed_bytes,
}
use Rattle.claxon_stream.specs.HeadRules.{ends_head, first_rules, rules_after}
use Rattle.claxon_stream.specs.declared.head.HeadDecoder.{HeadDecoder}
use Rattle.claxon_stream.specs.declared.head.event.HeadEvent.{HeadEvent}
use Rattle.claxon_stream.specs.declared.head.event.HeadEvent.TheVariants.{
  Block,
  Cut,
  Faulty,
  Header,
  Marker,
  ReadOn,
  Whole,
}
use Rattle.claxon_stream.specs.declared.head.part.BlockHeader.{BlockHeader as CodeHeader}
use Rattle.claxon_stream.specs.declared.head.part.FoundPart.{FoundPart}
use Rattle.claxon_stream.specs.declared.head.part.FoundPart.TheVariants.{
  Block as BlockFound,
  End as EndFound,
  Header as HeaderFound,
  Marker as MarkerFound,
}
use Rattle.claxon_stream.specs.declared.head.part.NextPart.{NextPart}
use Rattle.claxon_stream.specs.declared.head.part.NextPart.TheVariants.{
  Content as ContentNext,
  End as EndNext,
  Header as HeaderNext,
  Marker as MarkerNext,
}
use Rattle.claxon_stream.specs.declared.head.rules.Rules.{Rules}

-- `head.position()`
abbrev pub head_position : HeadDecoder → ℕ
head_position s = s.position

-- how many bytes are needed from there on
abbrev pub needs : HeadDecoder → ℕ
needs s = part_needs s.next s.rules

-- what begins at this position comes next
abbrev pub state_at : ℕ → NextPart → Rules → HeadDecoder
state_at position next rules =
    record { position = position; begin = position; next = next; rules = rules }

-- `HeadDecoder::new(position, options)`
abbrev pub new_head : ℕ → FlacReaderOptions → HeadDecoder
new_head position options = state_at position MarkerNext (first_rules options)

abbrev pub is_last : NextPart → Bool
is_last (ContentNext h) = h.is_last
is_last _ = false

abbrev pub part_after : Bool → NextPart
part_after true = EndNext
part_after false = HeaderNext

-- the header, as the decoder keeps it
abbrev pub kept_header : BlockHeader → CodeHeader
kept_header h = record { is_last = h.is_last; block_type = h.type; length = h.length }

-- after a part: a content that is passed is passed up to its last byte
abbrev pub state_after : HeadDecoder → HeadPart → HeadDecoder
state_after s MarkerPart = state_at (s.position + needs s) HeaderNext s.rules
state_after s (HeaderPart h) = record {
  position = s.position + needs s + passed_bytes h.type h.length;
  begin = s.begin;
  next = ContentNext (kept_header h);
  rules = s.rules;
}
state_after s (BlockPart c) =
    state_at (s.position + needs s) (part_after (ends_head s.rules (is_last s.next) c))
    (rules_after s.rules c)
state_after s EndPart = s

-- ---- parts of the code

-- how many bytes after a part are passed
abbrev pub passed_after : HeadPart → ℕ
passed_after (HeaderPart h) = passed_bytes h.type h.length
passed_after _ = 0

-- The position after the part fits.
abbrev pub PartFits : HeadDecoder → HeadPart → Type 0
PartFits s part = s.position + needs s + passed_after part < 2 ^ 64

abbrev pub FoundFits : {A : Type 0} → HeadDecoder → Result (FoundPart A) Error → Type 0
FoundFits s found = IfOk found (λ part. PartFits s (part_view part))

abbrev pub state_after_found : {A : Type 0} → HeadDecoder → Result (FoundPart A) Error → HeadDecoder
state_after_found s (Ok part) = state_after s (part_view part)
state_after_found s (Err e) = s

abbrev pub read_on : {A : Type 0} → ℕ → ℕ → HeadEvent A
read_on position count = ReadOn (record { position = position; count = count })

abbrev pub faulty_head : {A : Type 0} → HeadDecoder → Error → HeadEvent A
faulty_head s error = Faulty (record { position = s.begin; error = error })

-- what is answered for a part
abbrev pub part_shown : {A : Type 0} → HeadDecoder → FoundPart A → HeadEvent A
part_shown s MarkerFound = Marker
part_shown s (HeaderFound h) = Header (record {
  position = s.position + needs s;
  is_last = h.is_last;
  block_type = h.block_type;
  length = h.length;
})
part_shown s (BlockFound block) = Block block
part_shown s EndFound = Whole s.position

-- what is answered for what the bytes begin with
abbrev pub head_event_of : {A : Type 0} → HeadDecoder → Result (FoundPart A) Error
    → Result (HeadEvent A) Error
head_event_of s (Ok part) = Ok (part_shown s part)
head_event_of s (Err (IoError cause)) = Ok (Cut s.begin)
head_event_of s (Err OutOfMemory) = Err OutOfMemory
head_event_of s (Err (FormatError text)) = Ok (faulty_head s (FormatError text))
head_event_of s (Err (Unsupported text)) = Ok (faulty_head s (Unsupported text))
