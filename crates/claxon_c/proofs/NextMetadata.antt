-- The header of a metadata block, as a number of 32 bits.
use Rattle.std.proofs.Common.{◌≡◌, ℕ, ◌+◌, ◌*◌, ◌/◌, ◌%◌, ◌<◌, ◌≤◌, ltb, List, ◌++◌, length, take, drop, refl, sym, ap, ap₂, ◌∙◌, subst, inl, inr, arith, length-append}
use Rattle.std.proofs.lemmas.Bool.{lt-ltb, le-ltb, cases_lt}
use Rattle.std.proofs.lemmas.List.{take-append-drop}
use Rattle.claxon.specs.Bits.{Bits, bits, bits_of}
use Rattle.claxon.specs.Crc.{bit}
use Rattle.claxon.specs.Metadata.{BlockHeader, BlockHeaderCode}
use Rattle.claxon.specs.read.Metadata.{block_header_at}
use Rattle.claxon.specs.read.Reading.{Done}
use Rattle.claxon.proofs.Bytes.{length-bits_of}
use Rattle.claxon.proofs.CodedNumber.{bits-add}
use Rattle.claxon.proofs.Metadata.{Reads-block_header}
use Rattle.claxon.proofs.Numbers.{bits-same, length-bits}
use Rattle.claxon.specs.Prefix.{BeginsWith}
use Rattle.claxon_c.specs.declared.metadata.ClaxonMetadata.{ClaxonMetadata}
use Rattle.claxon_c.specs.NextMetadata.{IsNextHeader, CMetadataIsComplete, CMetadataIsSound, ShowsHeader, header_length}

-- the flag, the type and the length in a number
abbrev header_of : ℕ → BlockHeader
header_of n = record { is_last = ltb 0 (n / 2147483648); type = n / 16777216 % 128; length = n % 16777216 }

bit_of_flag : (n : ℕ) → n < 2 → bit (ltb 0 n) ≡ n
bit_of_flag n lt = elim (cases_lt 0 n) [
  | inl some ↦ rw (lt-ltb 0 n some) (omega arith)
  | inr none ↦ rw (le-ltb 0 n none) (omega arith)
]

flag_is : (n : ℕ) → n < 4294967296 → bit (header_of n).is_last ≡ n / 2147483648
flag_is n lt = bit_of_flag (n / 2147483648) (omega arith)

bits_of_header : (n : ℕ) → n < 4294967296 → bits 32 n ≡ bits 1 (bit (header_of n).is_last) ++ (bits 7 (header_of n).type ++ bits 24 (header_of n).length)
bits_of_header n lt =
    bits-add 1 31 n ∙ ap₂ (λ (a b : Bits). a ++ b) (ap (bits 1) (sym (flag_is n lt))) (bits-add 7 24 n ∙ ap₂ (λ (a b : Bits). a ++ b) (bits-same 7 (n / 16777216) (n / 16777216 % 128) (omega arith)) (bits-same 24 n (n % 16777216) (omega arith)))

header_code : (n : ℕ) (t : List ℕ) → n < 4294967296 → bits 32 n ≡ bits_of t → BlockHeaderCode (header_of n) t
header_code n t lt e = (omega arith, omega arith, sym e ∙ bits_of_header n lt)

-- a header has four bytes
header_bytes : (h : BlockHeader) (t : List ℕ) → BlockHeaderCode h t → length t ≡ header_length
header_bytes h t c =
    let one = length-bits 1 (bit h.is_last) in
    let seven = length-bits 7 h.type in
    let more = length-bits 24 h.length in
    let front = length-append (bits 1 (bit h.is_last)) (bits 7 h.type ++ bits 24 h.length) in
    let rest = length-append (bits 7 h.type) (bits 24 h.length) in
    let all : 8 * length t ≡ 32 = sym (length-bits_of t) ∙ ap length c.2 ∙ omega (arith, one, seven, more, front, rest) in
    omega arith

pub header_is_left : (h : BlockHeader) (s : List ℕ) → BeginsWith (BlockHeaderCode h) s → header_length ≤ length s
header_is_left h s (t, rest, c, e) = omega (arith, header_bytes h t c, ap length e, length-append t rest)

-- bytes begin with one header at most
header_read : (h : BlockHeader) (s : List ℕ) (c : BeginsWith (BlockHeaderCode h) s) → block_header_at s ≡ Done h c.1
header_read h s (t, rest, c, e) = ap block_header_at e ∙ Reads-block_header.again h t rest c

same_header : (h k : BlockHeader) (s : List ℕ) → BeginsWith (BlockHeaderCode h) s → BeginsWith (BlockHeaderCode k) s → h ≡ k
same_header h k s a b =
    let e : Done h a.1 ≡ Done k b.1 = sym (header_read h s a) ∙ header_read k s b in
    cc

-- this header is shown
module _ (bytes : List ℕ) (from n : ℕ) (shown : ClaxonMetadata) (lt : n < 4294967296) (is : bits 32 n ≡ bits_of (take header_length (drop from bytes)))
    (content : shown.content ≡ from + header_length) (len : shown.length ≡ n % 16777216) (type : shown.block_type ≡ n / 16777216 % 128) (last : shown.is_last ≡ n / 2147483648) where
  header_begins : BeginsWith (BlockHeaderCode (header_of n)) (drop from bytes)
  header_begins = (take header_length (drop from bytes), drop header_length (drop from bytes), header_code n (take header_length (drop from bytes)) lt is, sym (take-append-drop header_length (drop from bytes)))

  shows_header : ShowsHeader (header_of n) from shown
  shows_header = record { content = content; length = len; type = type; is_last = last ∙ sym (flag_is n lt) }

  pub metadata_sound : CMetadataIsSound bytes from 0 (shown.content + shown.length) shown
  metadata_sound says = (header_of n, header_begins, (refl, shows_header, ap₂ (λ (a b : ℕ). a + b) content len))

  pub metadata_complete : CMetadataIsComplete bytes from 0 (shown.content + shown.length) shown
  metadata_complete h begins = subst (IsNextHeader bytes from 0 (shown.content + shown.length) shown) (same_header (header_of n) h (drop from bytes) header_begins begins) (refl, shows_header, ap₂ (λ (a b : ℕ). a + b) content len)
