-- What a stream says of its frames.
use Rattle.std.specs.Prelude.{Option}
use Rattle.claxon.specs.StreamInfos.{StreamInfo}
use Rattle.claxon_recovery.specs.declared.stream.Stream.{Stream}

-- its streaminfo, if that is known
abbrev pub stream_known : Stream → Option StreamInfo
stream_known stream = stream.known
