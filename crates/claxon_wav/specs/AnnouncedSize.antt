-- The number of bytes that a header announces.
use Rattle.std.specs.Prelude.{
  ◌≡◌,
  ℕ,
  Err,
  None,
  Ok,
  Option,
  Result,
  Some,
}
use Rattle.claxon_wav.specs.WaveFile.{IsSizeOf}
use Rattle.claxon_wav.specs.declared.error.Error.{Error}
use Rattle.claxon_wav.specs.declared.error.Error.TheVariants.{TooLong}
use Rattle.claxon_wav.specs.declared.header.Layout.{Layout}

-- The number of bytes of this number of samples: none where that is unknown, and `TooLong` where
-- no WAV file holds them.
abbrev pub IsAnnounced : Layout → Option ℕ → Result (Option ℕ) Error → Type 0
IsAnnounced layout None result = result ≡ Ok None
IsAnnounced layout (Some count) (Ok None) = ⊥
IsAnnounced layout (Some count) (Ok (Some size)) = IsSizeOf layout count (Some size)
IsAnnounced layout (Some count) (Err error) = IsSizeOf layout count None × (error ≡ TooLong)
