-- The samples of a block, for the MD5 sum of a stream.
use Rattle.std.specs.Prelude.{◌≡◌, ℕ, Option, None, Some, IsSomeAnd}
use Rattle.claxon.specs.Block.{BlockValue}
use Rattle.claxon.specs.Streams.{interleave}
use Rattle.claxon_md5.specs.HasherCalls.{HashesSamples}
use Rattle.claxon_md5.specs.declared.Md5.{Md5}

-- The interleaved samples of the block are hashed too, after what was hashed before.
abbrev pub HashesBlock : ℕ → BlockValue → Md5 → Md5 → Type 0
HashesBlock bit_depth block old new = HashesSamples bit_depth (interleave block.channels) old new

-- The samples of a block are hashed too, if there is a hasher.
abbrev pub HashesToo : ℕ → BlockValue → Option Md5 → Option Md5 → Type 0
HashesToo bit_depth block None new = new ≡ None
HashesToo bit_depth block (Some old) new = IsSomeAnd new (HashesBlock bit_depth block old)
