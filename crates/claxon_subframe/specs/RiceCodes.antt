-- The Rice codes of a partition (RFC 9639, section 9.2.7.1), before zigzag decoding.
use Rattle.std.specs.Prelude.{Bool, ℕ, ℤ}
use Rattle.std.specs.Int.{cast_signed, cast_unsigned, w32}
use Rattle.claxon_format.specs.Bits.{Bits, Number}
use Rattle.claxon_format.specs.Codes.{Mapped, Never}
use Rattle.claxon_format.specs.read.Reading.{Reading, Reads, and_then, done}
use Rattle.claxon_format.specs.read.Bits.{number_at, unary_at, zigzag_decode, zigzag_encoded}
use Rattle.claxon_format.proofs.Laws.{Then, Reads-map, Reads-same, Reads-then}
use Rattle.claxon_format.proofs.Numbers.{Reads-number}
use Rattle.claxon_format.proofs.RiceCodes.{Unary, Reads-unary, never, never_then}

-- the zigzag-encoded number of a Rice code with this parameter, as the i32 that has its bits
unfoldable pub encoded_code_at : ℕ → Bits → Reading Bool ℤ
encoded_code_at k =
    and_then unary_at (λ q.
    and_then (number_at k) (λ r. done (cast_signed w32 (zigzag_encoded k q r))))

-- the residual sample of such a number
abbrev pub decoded : ℤ → ℤ
decoded x = zigzag_decode (cast_unsigned w32 x)

-- the bits of a Rice code with this parameter and this zigzag-encoded number: the quotient in
-- unary, and k low bits
abbrev pub EncodedCode : ℕ → ℤ → Bits → Type 0
EncodedCode k = Then Unary (λ q. Mapped (λ r. cast_signed w32 (zigzag_encoded k q r)) (Number k))

-- the law of such a code
pub Reads-encoded_code : (k : ℕ) → Reads Bool ℤ (encoded_code_at k) (EncodedCode k) Never
unfolding encoded_code_at
Reads-encoded_code k =
    Reads-same (
    Reads-then Reads-unary (λ q t c.
    Reads-map (λ r. cast_signed w32 (zigzag_encoded k q r)) (Reads-number k)))
    (λ x t c. c)
    (λ x t c. c)
    (λ f t c. absurd ((never_then never (λ q. never)).none f t c))
    (λ f t c. absurd c)
