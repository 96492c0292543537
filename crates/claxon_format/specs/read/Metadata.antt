-- The reader of the header of a metadata block (RFC 9639, section 8.1).
use Rattle.std.specs.Prelude.{ℕ, ◌%◌, nat_lt, List}
use Rattle.claxon_format.specs.read.Reading.{Reading, and_then, done}
use Rattle.claxon_format.specs.read.Bytes.{big_at}
use Rattle.claxon_format.specs.Metadata.{BlockHeader}

-- from the first byte and the length
abbrev pub block_header : ℕ → ℕ → BlockHeader
block_header first size = record { is_last = nat_lt 127 first; type = first % 128; length = size }

unfoldable pub block_header_at : List ℕ → Reading ℕ BlockHeader
block_header_at =
    and_then (big_at 1) (λ first. and_then (big_at 3) (λ size. done (block_header first size)))
