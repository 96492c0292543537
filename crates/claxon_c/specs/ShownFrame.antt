-- A frame that was decoded, as it is shown.
use Rattle.std.specs.Prelude.{ℕ, None}
use Rattle.claxon.specs.BlockInfos.{BlockInfo}
use Rattle.claxon.specs.Crc.{bit}
use Rattle.claxon_c.specs.declared.frame.ClaxonFrame.{ClaxonFrame}
use Rattle.claxon_c.specs.HeldBytes.{says_yes}

-- before a frame was decoded
abbrev pub no_frame : ClaxonFrame
no_frame = record { position = 0; end = 0; number = 0; duration = 0; is_variable = 0 }

-- a frame between these positions, with this header
abbrev pub shown_frame : ℕ → ℕ → BlockInfo → ClaxonFrame
shown_frame position end info = record {
  position = position;
  end = end;
  number = info.number;
  duration = info.duration;
  is_variable = bit info.is_variable;
}

-- what it says of its header: the number of samples, and how the frame is numbered
abbrev pub said_of : ClaxonFrame → BlockInfo
said_of frame = record {
  time = 0;
  channels = 0;
  duration = frame.duration;
  bit_depth = 0;
  header_bit_depth = None;
  sample_rate = None;
  is_variable = says_yes frame.is_variable;
  number = frame.number;
}
