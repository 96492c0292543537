-- How many bytes are kept at most, so that a frame is decoded from them as a whole.
use Rattle.std.specs.Prelude.{◌+◌, ◌*◌, ◌/◌, ℕ, max, min, Option, None, Some}
use Rattle.claxon.specs.StreamInfos.{StreamInfo}

-- the most bytes of a frame of the largest block whose subframes are verbatim: 16 of the header, 2
-- of the footer, and of each subframe two more than its samples have, with a bit more for those of
-- a side channel (RFC 9639, sections 9.1, 9.2.3 and 9.3)
abbrev pub verbatim_bytes : StreamInfo → ℕ
verbatim_bytes info =
    18 + min info.channels 8 * (2 + info.max_block_size * (info.bits_per_sample + 1) / 8)

-- 512 KiB; or, where the streaminfo is known, as many as such a frame may have, and no more than
-- 4 MiB
abbrev pub most_kept : Option StreamInfo → ℕ
most_kept None = 524288
most_kept (Some info) = max (min (verbatim_bytes info) 4194304) 524288
