-- A decoder of heads as C keeps it.
use Rattle.std.specs.Prelude.{ℕ, ◌==◌, if◌then◌else◌}
use Rattle.claxon_stream.specs.declared.head.HeadDecoder.{HeadDecoder}
use Rattle.claxon_stream.specs.declared.head.kept.KeptHead.{KeptHead}
use Rattle.claxon_stream.specs.declared.head.part.BlockHeader.{BlockHeader}
use Rattle.claxon_stream.specs.declared.head.part.NextPart.{NextPart}
use Rattle.claxon_stream.specs.declared.head.part.NextPart.TheVariants.{
  Content,
  End,
  Header,
  Marker,
}

-- what comes next, by its number and the header of the block whose content it is
abbrev pub kept_part : ℕ → BlockHeader → NextPart
kept_part n h =
    if n == 0 then Marker else if n == 1 then Header else if n == 2 then Content h else End

-- the decoder that is kept
abbrev pub kept_decoder : KeptHead → HeadDecoder
kept_decoder k = record {
  position = k.position;
  begin = k.begin;
  next = kept_part k.next k.header;
  rules = record {
    options = record {
      metadata_only = k.metadata_only;
      read_vorbis_comment = k.read_vorbis_comment;
    };
    has_info = k.has_info;
    has_comment = k.has_comment;
    most = k.most;
  };
}
