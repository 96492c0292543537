-- The frame header that bytes begin with, if it is one of the stream.
use Rattle.std.specs.Prelude.{ℕ, List, ◌++◌, Option, None}
use Rattle.claxon.specs.BlockInfos.{BlockInfo}
use Rattle.claxon.specs.StreamInfos.{StreamInfo}
use Rattle.claxon_seek.specs.Find.{EndsInHeader, WantedHeader}
use Rattle.claxon_stream.specs.declared.header.HeaderThere.{HeaderThere}
use Rattle.claxon_stream.specs.declared.header.HeaderThere.TheVariants.{
  CutHeader,
  NotWanted,
  Wanted,
}

-- The bytes begin with a header that has the streaminfo's number of channels and bit depth, or with
-- none whatever follows, or they end within what may be one.
abbrev pub HeaderIsThere : Option StreamInfo → List ℕ → HeaderThere → Type 0
HeaderIsThere known bytes (Wanted info) = WantedHeader known None bytes info
HeaderIsThere known bytes NotWanted =
    (more : List ℕ) (info : BlockInfo) → WantedHeader known None (bytes ++ more) info → ⊥
HeaderIsThere known bytes CutHeader =
    ((info : BlockInfo) → WantedHeader known None bytes info → ⊥) × EndsInHeader known bytes
