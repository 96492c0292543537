-- The sizes of the sample data and of the header of a WAV file.
use Rattle.std.specs.Prelude.{ℕ}

-- the most bytes of samples that a file holds: with up to sixty bytes of headers and a pad byte
-- they have a 32-bit size
abbrev pub max_data_size : ℕ
max_data_size = 4294967234

-- the most bytes of a header
abbrev pub max_header_size : ℕ
max_header_size = 68
