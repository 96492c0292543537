-- Readers of bits and numbers (RFC 9639, section 5), and of Rice codes (section 9.2.7.2).
use Rattle.std.specs.Prelude.{
  ℕ,
  suc,
  ◌+◌,
  ◌-◌,
  ◌*◌,
  ◌/◌,
  ◌%◌,
  ◌^◌,
  Bool,
  true,
  false,
  if◌then◌else◌,
  ◌==◌,
  nat_lt,
  [],
  ◌∷◌,
  length,
  take,
  drop,
  ℤ,
  pos,
  negsuc,
}
use Rattle.claxon_format.specs.Bits.{Bits, number}
use Rattle.claxon_format.specs.read.Reading.{Reading, Done, Faulty, Incomplete, and_then, done}

unfoldable pub bit_at : Bits → Reading Bool Bool
bit_at [] = Incomplete
bit_at (b ∷ s) = Done b s

-- a number of w bits
unfoldable pub number_at : ℕ → Bits → Reading Bool ℕ
number_at w s =
    if nat_lt (length s) w then Incomplete else Done (number (take w s)) (drop w s)

-- the integer of w bits that n stands for in two's complement
unfoldable pub twos_complement : ℕ → ℕ → ℤ
twos_complement w n = if nat_lt n (2 ^ (w - 1)) then pos n else negsuc (2 ^ w - 1 - n)

-- an integer of w bits in two's complement
unfoldable pub signed_at : ℕ → Bits → Reading Bool ℤ
signed_at w = and_then (number_at w) (λ n. done (twos_complement w n))

-- one zero more
abbrev pub one_more : Reading Bool ℕ → Reading Bool ℕ
one_more (Done q s) = Done (suc q) s
one_more (Faulty f s) = Faulty f s
one_more Incomplete = Incomplete

-- the number of zeros before the first one
unfoldable pub zeros_at : Bits → Reading Bool ℕ
zeros_at [] = Incomplete
zeros_at (true ∷ s) = Done 0 s
zeros_at (false ∷ s) = one_more (zeros_at s)

-- 2 ^ 32 zeros are answered as a list that ends too early
abbrev pub in_u32 : Reading Bool ℕ → Reading Bool ℕ
in_u32 (Done q s) = if nat_lt q (2 ^ 32) then Done q s else Incomplete
in_u32 (Faulty f s) = Faulty f s
in_u32 Incomplete = Incomplete

-- a number below 2 ^ 32, in unary
unfoldable pub unary_at : Bits → Reading Bool ℕ
unary_at s = in_u32 (zeros_at s)

-- the zigzag-encoded number of a quotient and k low bits
abbrev pub zigzag_encoded : ℕ → ℕ → ℕ → ℕ
zigzag_encoded k q r = (q * 2 ^ k + r) % 2 ^ 32

-- the integer that a zigzag-encoded number stands for
abbrev pub zigzag_decode : ℕ → ℤ
zigzag_decode n = if n % 2 == 0 then pos (n / 2) else negsuc (n / 2)

-- a Rice code under the Rice parameter k
unfoldable pub rice_code_at : ℕ → Bits → Reading Bool ℤ
rice_code_at k =
    and_then unary_at (λ q.
    and_then (number_at k) (λ r. done (zigzag_decode (zigzag_encoded k q r))))
