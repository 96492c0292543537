-- Readers of the head of a stream and of its parts (RFC 9639, sections 6 and 8).
use Rattle.std.specs.Prelude.{ℕ, zero, suc, ◌/◌, Bool, if◌then◌else◌, not, ◌==◌, List, Option, None}
use Rattle.claxon_format.specs.Fault.{
  Id3Header,
  StreamMarker,
  StreaminfoMissing,
  SecondComment,
  SecondStreaminfo,
  TooManyBlocks,
}
use Rattle.claxon_format.specs.read.Reading.{Reading, and_then, done, test, fails}
use Rattle.claxon_format.specs.read.Bytes.{big_at}
use Rattle.claxon_format.specs.Comments.{Comment}
use Rattle.claxon_format.specs.MetadataBlocks.{Content, Info}
use Rattle.claxon_format.specs.read.MetadataBlocks.{block_at}
use Rattle.claxon_format.specs.Heads.{
  Options,
  Head,
  is_info,
  stream_marker,
  found_with,
  is_second,
  is_done,
  streaminfo_ends_head,
}

unfoldable pub marker_at : List ℕ → Reading ℕ ℕ
marker_at =
    and_then (big_at 4) (λ m.
    test (m / 256 == 0x494433) Id3Header (test (not (m == stream_marker)) StreamMarker (done m)))

-- the blocks after the streaminfo, up to a limit of blocks
unfoldable pub others_at : Bool → ℕ → Option Comment → List ℕ → Reading ℕ (Option Comment)
others_at suffices zero found = fails TooManyBlocks
others_at suffices (suc k) found =
    and_then block_at (λ b.
    test (is_info b.content) SecondStreaminfo (
    test (is_second found b.content) SecondComment (
    if is_done suffices found b then done (found_with found b.content)
    else others_at suffices k (found_with found b.content))))

-- what is read after the first block
unfoldable pub after_first : Options → Bool → Content → List ℕ → Reading ℕ Head
after_first o is_last (Info i) =
    and_then
    (if streaminfo_ends_head o is_last then done None else others_at o.metadata_only 65535 None)
    (λ found. done (record { info = i; comment = if o.wants_comment then found else None }))
after_first o is_last _ = fails StreaminfoMissing

unfoldable pub head_at : Options → List ℕ → Reading ℕ Head
head_at o = and_then marker_at (λ m. and_then block_at (λ b. after_first o b.is_last b.content))
