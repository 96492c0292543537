-- The CRC of bytes after others.
use Rattle.std.proofs.Common.{◌≡◌, ℕ, ◌<◌, ◌≤◌, List, [], ◌∷◌, ◌++◌, length, get_or, sym, ap, ◌∙◌, arith}
use Rattle.std.proofs.lemmas.List.{append-nil}
use Rattle.claxon.specs.Bits.{bits_of}
use Rattle.claxon.specs.Crc.{divide, divide_step, crc16}
use Rattle.claxon.specs.CrcUpdate.{update_crc16}
use Rattle.claxon.proofs.CrcUpdate.{continues_16, update_crc-none}

module _ (bytes : List ℕ) (crc result : ℕ) (updated : (more : List ℕ) → update_crc16 result more ≡ update_crc16 crc (bytes ++ more)) where
  pub crc_updated : result ≡ update_crc16 crc bytes
  crc_updated = sym (update_crc-none 16 0x18005 result) ∙ updated [] ∙ ap (update_crc16 crc) (append-nil bytes)

  pub crc_continued : (before : List ℕ) → crc ≡ crc16 (bits_of before) → result ≡ crc16 (bits_of (before ++ bytes))
  crc_continued before known = crc_updated ∙ ap (λ c. update_crc16 c bytes) known ∙ continues_16 before bytes

  pub crc_begun : crc ≡ 0 → result ≡ crc16 (bits_of bytes)
  unfolding crc16 bits_of divide divide_step
  crc_begun none = crc_continued [] none

-- one byte that is alone in its list
pub updated_by_one : (bytes : List ℕ) (crc result : ℕ) → 1 ≤ length bytes → length bytes < 2 → ((more : List ℕ) → update_crc16 result more ≡ update_crc16 crc (get_or bytes 0 0 ∷ more)) → (more : List ℕ) → update_crc16 result more ≡ update_crc16 crc (bytes ++ more)
updated_by_one [] crc result some few next more = absurd (omega arith)
updated_by_one (b ∷ []) crc result some few next more = next more
updated_by_one (b ∷ d ∷ bs) crc result some few next more = absurd (omega arith)
