-- The laws of the format, as `specs/Laws.antt` states them.
use Rattle.std.proofs.Common.{List, sym, ◌∙◌, ℤ}
use Rattle.claxon_format.specs.read.Subframe.{subframe_at}
use Rattle.claxon_format.specs.Subframe.{Subframe, SubframeFault}
use Rattle.claxon_format.specs.Frame.{Block, Frame, FrameBytesFault}
use Rattle.claxon_format.specs.read.Frame.{frame_bytes_at}
use Rattle.claxon_format.specs.FrameWriter.{write_bytes, written_block}
use Rattle.claxon_format.specs.MetadataBlocks.{Content, Body, BodyFault, MetadataBlock, BlockCode, BlockFault}
use Rattle.claxon_format.specs.read.MetadataBlocks.{body_at, block_at}
use Rattle.claxon_format.specs.Heads.{Head, HeadCode, HeadFault}
use Rattle.claxon_format.specs.read.Heads.{head_at}
use Rattle.claxon_format.specs.Laws.{SubframesUnambiguous, FramesUnambiguous, BodiesUnambiguous, MetadataBlocksUnambiguous, HeadsUnambiguous, CrcDivides, FramesHaveCrc, ChannelsUnambiguous, DecorrelationUndone, FramesLossless, PlansWritten, Interleaved}
use Rattle.claxon_format.proofs.Laws.{unambiguous}
use Rattle.claxon_format.proofs.Division.{has_crc8, has_crc16}
use Rattle.claxon_format.proofs.Subframes.{Reads-subframe}
use Rattle.claxon_format.proofs.FrameBytes.{Reads-frame_bytes}
use Rattle.claxon_format.proofs.Frames.{frame_has_crc, header_has_crc}
use Rattle.claxon_format.proofs.Stereo.{decoded_channels_to}
use Rattle.claxon_format.proofs.LosslessFrames.{channels_decorrelated, written_is_frame, planned_is_frame}
use Rattle.claxon_format.proofs.MetadataBlocks.{Reads-body, Reads-block}
use Rattle.claxon_format.proofs.Heads.{Reads-head}
use Rattle.claxon_format.proofs.Streams.{interleaved, length-interleave}

pub subframes_unambiguous : SubframesUnambiguous
subframes_unambiguous w n le = unambiguous (List ℤ) (subframe_at w n) (Subframe w n) (SubframeFault w n) (Reads-subframe w n le)

pub frames_unambiguous : FramesUnambiguous
frames_unambiguous stream k = unambiguous Block (frame_bytes_at stream) (Frame stream) (FrameBytesFault stream) (Reads-frame_bytes stream k)

pub bodies_unambiguous : BodiesUnambiguous
bodies_unambiguous type n = unambiguous Content (body_at type n) (Body type n) (BodyFault type n) (Reads-body type n)

pub metadata_blocks_unambiguous : MetadataBlocksUnambiguous
metadata_blocks_unambiguous = unambiguous MetadataBlock block_at BlockCode BlockFault Reads-block

pub heads_unambiguous : HeadsUnambiguous
heads_unambiguous o = unambiguous Head (head_at o) (HeadCode o) (HeadFault o) (Reads-head o)

pub crc_divides : CrcDivides
crc_divides = record {
  right8 = λ s g len. (has_crc8 s g len).0;
  divides8 = λ s g len. (has_crc8 s g len).1;
  right16 = λ s g len. (has_crc16 s g len).0;
  divides16 = λ s g len. (has_crc16 s g len).1;
}

pub frames_have_crc : FramesHaveCrc
frames_have_crc = record { headers = header_has_crc; frames = frame_has_crc }

pub channels_unambiguous : ChannelsUnambiguous
channels_unambiguous code coded channels others a b = decoded_channels_to code coded channels a ∙ sym (decoded_channels_to code coded others b)

pub decorrelation_undone : DecorrelationUndone
decorrelation_undone n code w channels hi some small count fit = sym (decoded_channels_to code _ channels (channels_decorrelated n code w channels hi some small count fit))

pub frames_lossless : FramesLossless
frames_lossless stream f header plans channels rest k s suits =
    let code = written_is_frame stream f header plans channels k s suits in
    (code, (Reads-frame_bytes stream k).again (written_block stream f channels) (write_bytes stream f header plans channels) rest code)

pub plans_written : PlansWritten
plans_written = planned_is_frame

pub samples_interleaved : Interleaved
samples_interleaved = record { count = length-interleave; sample = interleaved }
