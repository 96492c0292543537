-- What a hasher holds.
use Rattle.std.specs.Prelude.{◌≡◌, ℕ, ◌%◌, ◌^◌, List, length, take}
use Rattle.claxon_md5.specs.Md5.{words_after, bytes_left}
use Rattle.claxon_md5.specs.declared.Md5.{Md5}

-- The hasher was given these bytes, in whatever pieces: it has the words after the whole blocks,
-- its buffer begins with the bytes after them, and its length is that of all, modulo 2 ^ 64.
pub record HasHashed (hasher : Md5) (xs : List ℕ) : Type 0 where
  pub words : hasher.state ≡ words_after xs
  pub left : take (length xs % 64) hasher.buffer ≡ bytes_left xs
  pub count : hasher.length ≡ length xs % 2 ^ 64
