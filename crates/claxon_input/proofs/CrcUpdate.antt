-- The laws of CRCs that are updated byte by byte.
use Rattle.std.proofs.Common.{◌≡◌, ℕ, zero, suc, ◌+◌, ◌-◌, ◌*◌, ◌/◌, ◌%◌, ◌^◌, ◌<◌, ◌≤◌, Bool, true, false, ◌&&◌, bit_xor, List, [], ◌∷◌, ◌++◌, length, get_or, take, drop, replicate, refl, sym, ap, ap₂, ◌∙◌, arith, add-zero}
use Rattle.std.specs.Prelude.{◌==◌}
use Rattle.std.specs.Simd.{first_chunks}
use Rattle.std.specs.Int.Bits.{xor_assoc, xor_self, xor_zero_r, xor_zero_l, xor_shifted}
use Rattle.std.proofs.lemmas.Nat.{xor_comm, xor_lt, xor_block, pow-add, pow_pos}
use Rattle.std.proofs.lemmas.List.{append-nil, drop_more, drop-drop, take-append-drop, get_or-drop, length-take, length-drop, take_all}
use Rattle.std.proofs.lemmas.Bool.{false≢true, eqb-true}
use Rattle.std.proofs.Math.Nat.{mul_comm, mul-suc, mod-eq_of_lt, mul-lt-mul_of_pos_left}
use Rattle.std.proofs.Math.ListN.{drop_of_length-le}
use Rattle.claxon_format.specs.Bits.{Bits, bits, bits_of}
use Rattle.claxon_format.specs.Crc.{divide, divide_step, crc8, crc16}
use Rattle.claxon_format.proofs.Numbers.{length-bits, number-bits}
use Rattle.claxon_format.proofs.Bytes.{bits_of-append}
use Rattle.claxon_format.proofs.Division.{zeros, zeros-add, zeros_swap, divide-append, divide_lt, divide-number, zeros-xor, zeros-small, zeros-injective}
use Rattle.claxon_input.specs.CrcUpdate.{update_crc, update_crc8, update_crc16, after_zeros, Crc8Continues, Crc16Continues}
use Rattle.claxon_input.specs.declared.crc.TheConstants.{CRC8_TABLE, CRC16_TABLES}
use Rattle.claxon_input.proofs.BitLists.{bits-low}
use Rattle.claxon_input.proofs.BitSteps.{bits_of-one, bits_of-none}

-- ---- byte by byte

pub update_crc-cons : (d p c y : ℕ) (ys : List ℕ) → update_crc d p (update_crc d p c (y ∷ [])) ys ≡ update_crc d p c (y ∷ ys)
unfolding update_crc
update_crc-cons d p c y ys = refl

pub update_crc-append : (d p : ℕ) (xs ys : List ℕ) (c : ℕ) → update_crc d p (update_crc d p c xs) ys ≡ update_crc d p c (xs ++ ys)
unfolding update_crc
update_crc-append d p [] ys c = refl
update_crc-append d p (x ∷ xs) ys c = update_crc-append d p xs ys (zeros d p 8 (bit_xor c (x % 256 * 2 ^ (d - 8))))

pub update_crc-none : (d p c : ℕ) → update_crc d p c [] ≡ c
unfolding update_crc
update_crc-none d p c = refl

-- the bytes from an index on
pub update_crc-at : (d p c e : ℕ) (bs : List ℕ) (i : ℕ) → i < length bs → e ≡ update_crc d p c (get_or bs i 0 ∷ []) → update_crc d p e (drop (i + 1) bs) ≡ update_crc d p c (drop i bs)
update_crc-at d p c e bs i h k = ap (λ s. update_crc d p s (drop (i + 1) bs)) k ∙ update_crc-cons d p c (get_or bs i 0) (drop (i + 1) bs) ∙ ap (update_crc d p c) (sym (drop_more bs i 0 h))

pub update_crc-end : (d p c : ℕ) (bs : List ℕ) (i : ℕ) → length bs ≤ i → update_crc d p c (drop i bs) ≡ c
update_crc-end d p c bs i h = ap (update_crc d p c) (drop_of_length-le bs h) ∙ update_crc-none d p c

-- ---- what is updated is the CRC of the whole

divide_none : (d p r : ℕ) → divide d p r [] ≡ r
unfolding divide
divide_none d p r = refl

module _ (d p : ℕ) (some : 2 ≤ 2 ^ d) (low : 2 ^ d ≤ p) (high : p < 2 * 2 ^ d) where
  -- the remainder of the bytes, with d zeros after them
  abbrev pub whole : List ℕ → ℕ
  whole s = divide d p 0 (bits_of s ++ replicate d false)

  -- one more byte, where d zeros follow
  byte_more : (k r y : ℕ) → k + 8 ≡ d → r < 2 ^ d → y < 256 → zeros d p d (divide d p r (bits 8 y)) ≡ zeros d p 8 (bit_xor (zeros d p d r) (y * 2 ^ k))
  byte_more k r y e h b =
      let bound : 2 ^ d ≡ 2 ^ k * 256 = ap (λ z. 2 ^ z) (sym e) ∙ pow-add 2 k 8 in
      let q = pow_pos k in
      let fits : y * 2 ^ k < 2 ^ d = rw (bound, mul_comm y (2 ^ k)) (mul-lt-mul_of_pos_left b q) in
      let fits' : y < 2 ^ d = rw bound (omega arith) in
      let byte : divide d p r (bits 8 y) ≡ bit_xor (zeros d p 8 r) y =
      divide-number d p some low high (bits 8 y) r h (rw (length-bits 8 y) (omega arith))
      ∙ ap₂ bit_xor (ap (λ z. zeros d p z r) (length-bits 8 y)) (number-bits 8 y ∙ mod-eq_of_lt b) in
      let last : zeros d p d y ≡ zeros d p 8 (y * 2 ^ k) =
      ap (λ z. zeros d p z y) (sym e) ∙ zeros-add d p k 8 y ∙ ap (zeros d p 8) (zeros-small d p some low high k y fits) in
      ap (zeros d p d) byte
      ∙ zeros-xor d p some low high d (zeros d p 8 r) y (divide_lt d p some low high (replicate 8 false) r h) fits'
      ∙ ap₂ bit_xor (zeros_swap d p 8 d r) last
      ∙ sym (zeros-xor d p some low high 8 (zeros d p d r) (y * 2 ^ k) (divide_lt d p some low high (replicate d false) r h) fits)

  at : (s : List ℕ) → whole s ≡ zeros d p d (divide d p 0 (bits_of s))
  at s = divide-append d p 0 (bits_of s) (replicate d false)

  xor_byte_lt : (c y : ℕ) → 8 ≤ d → c < 2 ^ d → bit_xor c (y % 256 * 2 ^ (d - 8)) < 2 ^ d
  xor_byte_lt c y e h =
      let k : (d - 8) + 8 ≡ d = omega arith in
      let bound : 2 ^ d ≡ 2 ^ (d - 8) * 256 = ap (λ z. 2 ^ z) (sym k) ∙ pow-add 2 (d - 8) 8 in
      let q = pow_pos (d - 8) in
      let b : y % 256 < 256 = omega arith in
      xor_lt d c (y % 256 * 2 ^ (d - 8)) h (rw (bound, mul_comm (y % 256) (2 ^ (d - 8))) (mul-lt-mul_of_pos_left b q))

  pub update_crc_lt : (xs : List ℕ) (c : ℕ) → 8 ≤ d → c < 2 ^ d → update_crc d p c xs < 2 ^ d
  unfolding update_crc
  update_crc_lt [] c e h = h
  update_crc_lt (y ∷ ys) c e h = update_crc_lt ys _ e (divide_lt d p some low high (replicate 8 false) (bit_xor c (y % 256 * 2 ^ (d - 8))) (xor_byte_lt c y e h))

  -- CRCs that the same bytes make equal were equal before
  update_crc-injective : (xs : List ℕ) (a c : ℕ) → p % 2 ≡ 1 → 8 ≤ d → a < 2 ^ d → c < 2 ^ d → update_crc d p a xs ≡ update_crc d p c xs → a ≡ c
  unfolding update_crc
  update_crc-injective [] a c odd e h l k = k
  update_crc-injective (y ∷ ys) a c odd e h l k =
      let y' = y % 256 * 2 ^ (d - 8) in
      let one : update_crc d p a (y ∷ []) ≡ update_crc d p c (y ∷ []) =
      update_crc-injective ys (update_crc d p a (y ∷ [])) (update_crc d p c (y ∷ [])) odd e (update_crc_lt (y ∷ []) a e h) (update_crc_lt (y ∷ []) c e l) k in
      let m : bit_xor a y' ≡ bit_xor c y' = zeros-injective d p some low high 8 (bit_xor a y') (bit_xor c y') odd (xor_byte_lt a y e h) (xor_byte_lt c y e l) one in
      sym (xor_back a y') ∙ ap (λ z. bit_xor z y') m ∙ xor_back c y'
    where
      xor_back : (a b : ℕ) → bit_xor (bit_xor a b) b ≡ a
      xor_back a b = xor_assoc a b b ∙ ap (bit_xor a) (xor_self b) ∙ xor_zero_r a

  -- what a CRC is after bytes, where the CRC at the end is known
  pub update_crc-taken : (taken left : List ℕ) (a c : ℕ) → p % 2 ≡ 1 → 8 ≤ d → a < 2 ^ d → c < 2 ^ d → update_crc d p c left ≡ update_crc d p a (taken ++ left) → c ≡ update_crc d p a taken
  update_crc-taken taken left a c odd e h l k = update_crc-injective left c (update_crc d p a taken) odd e l (update_crc_lt taken a e h) (k ∙ sym (update_crc-append d p taken left a))

  zero_stays : (n : ℕ) → zeros d p n 0 ≡ 0
  zero_stays n = zeros-small d p some low high n 0 (omega arith) ∙ omega arith

  -- an update of a remainder with d zeros after it
  from_raw : (ys : List ℕ) (r : ℕ) → 8 ≤ d → r < 2 ^ d → update_crc d p (zeros d p d r) ys ≡ zeros d p d (divide d p r (bits_of ys))
  unfolding update_crc
  from_raw [] r e h = ap (zeros d p d) (sym (ap (divide d p r) bits_of-none ∙ divide_none d p r))
  from_raw (y ∷ ys) r e h =
      let b = bits 8 (y % 256) in
      ap (λ c. update_crc d p c ys) (sym (byte_more (d - 8) r (y % 256) (omega arith) h (omega arith)))
      ∙ from_raw ys (divide d p r b) e (divide_lt d p some low high b r h)
      ∙ ap (zeros d p d) (sym (divide-append d p r b (bits_of ys)) ∙ ap (λ z. divide d p r (z ++ bits_of ys)) (bits-low 8 y) ∙ sym (ap (divide d p r) (bits_of-one y ys)))

  pub continues : (xs s : List ℕ) → 8 ≤ d → update_crc d p (whole s) xs ≡ whole (s ++ xs)
  continues xs s e =
      let r = divide d p 0 (bits_of s) in
      ap (λ c. update_crc d p c xs) (at s)
      ∙ from_raw xs r e (divide_lt d p some low high (bits_of s) 0 (omega arith))
      ∙ ap (zeros d p d) (sym (divide-append d p 0 (bits_of s) (bits_of xs)) ∙ ap (divide d p 0) (sym (bits_of-append s xs)))
      ∙ sym (at (s ++ xs))

  -- the CRC that the rest updates to that of the whole is the CRC of what stands before the rest
  pub of_bits : (all rest : List ℕ) (x : Bits) (c : ℕ) → p % 2 ≡ 1 → 8 ≤ d → c < 2 ^ d → bits_of all ≡ x ++ bits_of rest → update_crc d p c rest ≡ update_crc d p 0 all → c ≡ divide d p 0 (x ++ replicate d false)
  of_bits all rest x c odd e h split k =
      let r = divide d p 0 x in
      let r_lt : r < 2 ^ d = divide_lt d p some low high x 0 (omega arith) in
      let whole_is : update_crc d p 0 all ≡ zeros d p d (divide d p 0 (bits_of all)) = ap (λ z. update_crc d p z all) (sym (zero_stays d)) ∙ from_raw all 0 e (omega arith) in
      let parts : zeros d p d (divide d p 0 (bits_of all)) ≡ update_crc d p (zeros d p d r) rest =
      ap (zeros d p d) (ap (divide d p 0) split ∙ divide-append d p 0 x (bits_of rest)) ∙ sym (from_raw rest r e r_lt) in
      update_crc-injective rest c (zeros d p d r) odd e h (divide_lt d p some low high (replicate d false) r r_lt) (k ∙ whole_is ∙ parts)
      ∙ sym (divide-append d p 0 x (replicate d false))

pub continues_8 : Crc8Continues
unfolding crc8
continues_8 s xs = continues 8 0x107 (omega arith) (omega arith) (omega arith) xs s (omega arith)

pub continues_16 : Crc16Continues
unfolding crc16
continues_16 s xs = continues 16 0x18005 (omega arith) (omega arith) (omega arith) xs s (omega arith)

-- ---- the CRC after all that remains determines that of what was consumed

-- the kept values after all that remains, the outermost of which is a CRC
abbrev pub values_past_all : (List ℕ → ℕ) → List ℕ → (List ℕ → List ℕ) → List ℕ → List ℕ
values_past_all update_crc left others more = update_crc (left ++ more) ∷ others (left ++ more)

outermost_is : (f g : List ℕ → ℕ) (a b : List ℕ) (u v : List ℕ → List ℕ) → values_past_all g b v ≡ values_past_all f a u → g (b ++ []) ≡ f (a ++ [])
outermost_is f g a b u v e = let k : values_past_all g b v [] ≡ values_past_all f a u [] = ap (λ (h : List ℕ → List ℕ). h []) e in cc

-- the CRCs after all that remains determine the CRC of d bits of what was consumed
pub record DeterminesCrc (d : ℕ) (update_crc : ℕ → List ℕ → ℕ) (crc : Bits → ℕ) : Type 0 where
  pub determines : (all rest : List ℕ) (x : Bits) (c : ℕ) (u v : List ℕ → List ℕ) → c < 2 ^ d → bits_of all ≡ x ++ bits_of rest → values_past_all (update_crc c) rest v ≡ values_past_all (update_crc 0) all u → c ≡ crc x

determines_crc : (d p : ℕ) → 2 ≤ 2 ^ d → 2 ^ d ≤ p → p < 2 * 2 ^ d → p % 2 ≡ 1 → 8 ≤ d → DeterminesCrc d (update_crc d p) (λ x. divide d p 0 (x ++ replicate d false))
determines_crc d p some low high odd eight = record {
  determines = λ all rest x c u v h split e. of_bits d p some low high all rest x c odd eight h split (rw (append-nil rest, append-nil all) at (outermost_is (update_crc d p 0) (update_crc d p c) all rest u v e));
}

pub determines_crc8 : DeterminesCrc 8 update_crc8 crc8
unfolding crc8
determines_crc8 = determines_crc 8 0x107 (omega arith) (omega arith) (omega arith) refl (omega arith)

pub determines_crc16 : DeterminesCrc 16 update_crc16 crc16
unfolding crc16
determines_crc16 = determines_crc 16 0x18005 (omega arith) (omega arith) (omega arith) refl (omega arith)

-- ---- tables

-- n bytes from j on, each put into the highest bits
unfoldable high_bytes : ℕ → ℕ → ℕ → List ℕ
high_bytes d zero j = []
high_bytes d (suc n) j = j * 2 ^ (d - 8) ∷ high_bytes d n (j + 1)

-- each CRC of a table is that at the same index of the other one, after one more byte of zeros
unfoldable follows : ℕ → ℕ → List ℕ → List ℕ → Bool
follows d p [] [] = true
follows d p [] (t ∷ ts) = false
follows d p (s ∷ ss) [] = false
follows d p (s ∷ ss) (t ∷ ts) = (t == zeros d p 8 s) && follows d p ss ts

-- each table follows the one before it
unfoldable in_turn : ℕ → ℕ → List ℕ → List (List ℕ) → Bool
in_turn d p ss [] = true
in_turn d p ss (ts ∷ tables) = follows d p ss ts && in_turn d p ts tables

table8 : follows 8 0x107 (high_bytes 8 256 0) CRC8_TABLE ≡ true
unfolding high_bytes follows divide divide_step
table8 = refl

tables16 : in_turn 16 0x18005 (high_bytes 16 256 0) CRC16_TABLES ≡ true
unfolding high_bytes follows in_turn divide divide_step
tables16 = refl

both : (a b : Bool) → (a && b) ≡ true → (a ≡ true) × (b ≡ true)
both true b e = (refl, e)
both false b e = absurd (false≢true e)

length-high_bytes : (d n j : ℕ) → length (high_bytes d n j) ≡ n
unfolding high_bytes
length-high_bytes d zero j = refl
length-high_bytes d (suc n) j = ap suc (length-high_bytes d n (j + 1))

high_bytes_at : (d n j i : ℕ) → i < n → get_or (high_bytes d n j) i 0 ≡ (j + i) * 2 ^ (d - 8)
unfolding high_bytes
high_bytes_at d zero j i h = absurd (omega arith)
high_bytes_at d (suc n) j zero h = ap (λ m. m * 2 ^ (d - 8)) (sym (add-zero j))
high_bytes_at d (suc n) j (suc i) h =
    let k : j + 1 + i ≡ j + suc i = omega arith in
    high_bytes_at d n (j + 1) i (omega arith) ∙ ap (λ m. m * 2 ^ (d - 8)) k

follows-length : (d p : ℕ) (ss ts : List ℕ) → follows d p ss ts ≡ true → length ts ≡ length ss
unfolding follows
follows-length d p [] [] e = refl
follows-length d p [] (t ∷ ts) e = absurd (false≢true e)
follows-length d p (s ∷ ss) [] e = absurd (false≢true e)
follows-length d p (s ∷ ss) (t ∷ ts) e = ap suc (follows-length d p ss ts (both _ _ e).1)

follows_at : (d p : ℕ) (ss ts : List ℕ) (i : ℕ) → follows d p ss ts ≡ true → i < length ss → get_or ts i 0 ≡ zeros d p 8 (get_or ss i 0)
unfolding follows
follows_at d p [] ts i e h = absurd (omega arith)
follows_at d p (s ∷ ss) [] i e h = absurd (false≢true e)
follows_at d p (s ∷ ss) (t ∷ ts) zero e h = eqb-true t _ (both _ _ e).0
follows_at d p (s ∷ ss) (t ∷ ts) (suc i) e h = follows_at d p ss ts i (both _ _ e).1 (omega arith)

table_at : (d p : ℕ) (ss : List ℕ) (tables : List (List ℕ)) (n i : ℕ) → in_turn d p ss tables ≡ true → n < length tables → i < length ss
    → get_or (get_or tables n []) i 0 ≡ zeros d p (8 * (n + 1)) (get_or ss i 0)
unfolding in_turn
table_at d p ss [] n i e l h = absurd (omega arith)
table_at d p ss (ts ∷ tables) zero i e l h = follows_at d p ss ts i (both _ _ e).0 h
table_at d p ss (ts ∷ tables) (suc n) i e l h =
    let f : follows d p ss ts ≡ true = (both _ _ e).0 in
    let k : 8 + 8 * (n + 1) ≡ 8 * (suc n + 1) = omega arith in
    table_at d p ts tables n i (both _ _ e).1 (omega arith) (omega (arith, follows-length d p ss ts f))
    ∙ ap (zeros d p (8 * (n + 1))) (follows_at d p ss ts i f h)
    ∙ sym (zeros-add d p 8 (8 * (n + 1)) (get_or ss i 0))
    ∙ ap (λ m. zeros d p m (get_or ss i 0)) k

entry_8 : (i : ℕ) → i < 256 → get_or CRC8_TABLE i 0 ≡ zeros 8 0x107 8 i
entry_8 i h =
    let m : (0 + i) * 2 ^ (8 - 8) ≡ i = omega arith in
    follows_at 8 0x107 (high_bytes 8 256 0) CRC8_TABLE i table8 (omega (arith, length-high_bytes 8 256 0)) ∙ ap (zeros 8 0x107 8) (high_bytes_at 8 256 0 i h ∙ m)

pub entry_16 : (zeros i : ℕ) → zeros < 16 → i < 256 → get_or (get_or CRC16_TABLES zeros []) i 0 ≡ after_zeros (zeros + 1) (i * 256)
entry_16 n i l h =
    let m : (0 + i) * 2 ^ (16 - 8) ≡ i * 256 = omega arith in
    table_at 16 0x18005 (high_bytes 16 256 0) CRC16_TABLES n i tables16 (omega arith) (omega (arith, length-high_bytes 16 256 0)) ∙ ap (after_zeros (n + 1)) (high_bytes_at 16 256 0 i h ∙ m)

-- ---- the code's steps are those of the definition

pub update8_byte_is : (c y e : ℕ) → c < 256 → y < 256 → e ≡ get_or CRC8_TABLE (bit_xor c y) 0 → e ≡ update_crc8 c (y ∷ [])
unfolding update_crc
update8_byte_is c y e h l k =
    let m : y ≡ y % 256 * 2 ^ (8 - 8) = omega arith in
    k ∙ entry_8 (bit_xor c y) (xor_lt 8 c y h l) ∙ ap (λ z. zeros 8 0x107 8 (bit_xor c z)) m

-- division by the polynomial of degree 16
pub zeros16-xor : (n a c : ℕ) → a < 65536 → c < 65536 → zeros 16 0x18005 n (bit_xor a c) ≡ bit_xor (zeros 16 0x18005 n a) (zeros 16 0x18005 n c)
zeros16-xor n a c h l = zeros-xor 16 0x18005 (omega arith) (omega arith) (omega arith) n a c h l

pub zeros16-small : (n x : ℕ) → x * 2 ^ n < 65536 → zeros 16 0x18005 n x ≡ x * 2 ^ n
zeros16-small n x h = zeros-small 16 0x18005 (omega arith) (omega arith) (omega arith) n x h

pub zeros16_lt : (n x : ℕ) → x < 65536 → zeros 16 0x18005 n x < 65536
zeros16_lt n x h = divide_lt 16 0x18005 (omega arith) (omega arith) (omega arith) (replicate n false) x h

pub byte-xor : (a b : ℕ) → bit_xor (a * 256) (b * 256) ≡ bit_xor a b * 256
byte-xor a b =
    let e : bit_xor (a * 256 + 0) (b * 256 + 0) ≡ bit_xor a b * 256 + 0 = xor_block 8 a b 0 0 (omega arith) (omega arith) in
    rw (add-zero (a * 256), add-zero (b * 256), add-zero (bit_xor a b * 256)) at e

-- a byte is XORed into the upper half of a CRC, and the lower half moves up
step16 : (c y : ℕ) → c < 65536 → y < 256 → zeros 16 0x18005 8 (bit_xor c (y * 256)) ≡ bit_xor (zeros 16 0x18005 8 (bit_xor (c / 256) y * 256)) (c % 256 * 256)
step16 c y h l =
    let hi = c / 256 in
    let lo = c % 256 in
    let i : bit_xor hi y < 256 = xor_lt 8 hi y (omega arith) l in
    let parts : hi * 256 + lo ≡ c = omega arith in
    let xored : bit_xor c (y * 256) ≡ bit_xor (bit_xor hi y * 256) lo =
    ap (λ z. bit_xor z (y * 256)) (sym parts) ∙ ap (bit_xor (hi * 256 + lo)) (sym (add-zero (y * 256)))
    ∙ xor_block 8 hi y lo 0 (omega arith) (omega arith) ∙ ap (λ z. bit_xor hi y * 256 + z) (xor_zero_r lo) ∙ sym (xor_shifted (bit_xor hi y) 8 lo (omega arith)) in
    ap (zeros 16 0x18005 8) xored
    ∙ zeros16-xor 8 (bit_xor hi y * 256) lo (omega arith) (omega arith)
    ∙ ap (bit_xor (zeros 16 0x18005 8 (bit_xor hi y * 256))) (zeros16-small 8 lo (omega arith))

pub update16_byte_is : (c y e : ℕ) → c < 65536 → y < 256 → e ≡ after_zeros 1 (bit_xor (c / 256) y * 256) → bit_xor (c * 256 % 65536) e ≡ update_crc16 c (y ∷ [])
unfolding update_crc
update16_byte_is c y e h l k =
    let m : y % 256 ≡ y = omega arith in
    let top : c * 256 % 65536 ≡ c % 256 * 256 = omega arith in
    sym (ap (λ z. zeros 16 0x18005 8 (bit_xor c (z * 256))) m ∙ step16 c y h l ∙ ap₂ bit_xor (sym k) (sym top) ∙ xor_comm e (c * 256 % 65536))

-- ---- eight bytes at once

-- what each byte adds to the CRC after n more bytes of zeros, whatever the others are
unfoldable pub shares : ℕ → List ℕ → ℕ
shares n [] = 0
shares n (y ∷ ys) = bit_xor (after_zeros (n + suc (length ys)) (y % 256 * 256)) (shares n ys)

pub apart : (n : ℕ) (ys : List ℕ) (c : ℕ) → c < 65536 → after_zeros n (update_crc16 c ys) ≡ bit_xor (after_zeros (n + length ys) c) (shares n ys)
unfolding update_crc shares
apart n [] c h = ap (λ m. after_zeros m c) (sym (add-zero n)) ∙ sym (xor_zero_r (after_zeros (n + 0) c))
apart n (y ∷ ys) c h =
    let b : y % 256 * 256 < 65536 = omega arith in
    let x = bit_xor c (y % 256 * 256) in
    let k : 8 + 8 * (n + length ys) ≡ 8 * (n + suc (length ys)) = omega arith in
    let m = 8 * (n + suc (length ys)) in
    apart n ys (zeros 16 0x18005 8 x) (zeros16_lt 8 x (xor_lt 16 c (y % 256 * 256) h b))
    ∙ ap (λ z. bit_xor z (shares n ys)) (sym (zeros-add 16 0x18005 8 (8 * (n + length ys)) x) ∙ ap (λ z. zeros 16 0x18005 z x) k ∙ zeros16-xor m c (y % 256 * 256) h b)
    ∙ xor_assoc (zeros 16 0x18005 m c) (zeros 16 0x18005 m (y % 256 * 256)) (shares n ys)

-- a CRC is XORed into the next two bytes
pub absorbed : (c y0 y1 : ℕ) (ys : List ℕ) → c < 65536 → y0 < 256 → y1 < 256 → update_crc16 c (y0 ∷ y1 ∷ ys) ≡ update_crc16 0 (bit_xor (c / 256) y0 ∷ bit_xor (c % 256) y1 ∷ ys)
unfolding update_crc
absorbed c y0 y1 ys h a b =
    let hi = bit_xor (c / 256) y0 in
    let lo = bit_xor (c % 256) y1 in
    let m0 : y0 % 256 ≡ y0 = omega arith in
    let m1 : y1 % 256 ≡ y1 = omega arith in
    let n0 : hi % 256 ≡ hi = mod-eq_of_lt (xor_lt 8 (c / 256) y0 (omega arith) a) in
    let n1 : lo % 256 ≡ lo = mod-eq_of_lt (xor_lt 8 (c % 256) y1 (omega arith) b) in
    let z = zeros 16 0x18005 8 (hi * 256) in
    let left : bit_xor (zeros 16 0x18005 8 (bit_xor c (y0 % 256 * 256))) (y1 % 256 * 256) ≡ bit_xor z (lo * 256) =
    ap₂ (λ u v. bit_xor (zeros 16 0x18005 8 (bit_xor c (u * 256))) (v * 256)) m0 m1 ∙ ap (λ u. bit_xor u (y1 * 256)) (step16 c y0 h a)
    ∙ xor_assoc z (c % 256 * 256) (y1 * 256) ∙ ap (bit_xor z) (byte-xor (c % 256) y1) in
    let right : bit_xor (zeros 16 0x18005 8 (bit_xor 0 (hi % 256 * 256))) (lo % 256 * 256) ≡ bit_xor z (lo * 256) =
    ap₂ (λ u v. bit_xor (zeros 16 0x18005 8 (bit_xor 0 (u * 256))) (v * 256)) n0 n1 ∙ ap (λ u. bit_xor (zeros 16 0x18005 8 u) (lo * 256)) (xor_zero_l (hi * 256)) in
    ap (λ u. update_crc16 (zeros 16 0x18005 8 u) ys) (left ∙ sym right)

pub from_none : (n : ℕ) (ys : List ℕ) → after_zeros n (update_crc16 0 ys) ≡ shares n ys
from_none n ys =
    let none : after_zeros (n + length ys) 0 ≡ 0 = zeros16-small (8 * (n + length ys)) 0 (omega arith) ∙ omega arith in
    apart n ys 0 (omega arith) ∙ ap (λ z. bit_xor z (shares n ys)) none ∙ xor_zero_l (shares n ys)

share : (k m y e : ℕ) → y < 256 → m ≡ k → e ≡ after_zeros m (y * 256) → e ≡ after_zeros k (y % 256 * 256)
share k m y e h q p = let r : y ≡ y % 256 = omega arith in p ∙ ap₂ (λ j z. after_zeros j (z * 256)) q r

-- each index of the tables is a byte
pub record TableLookups (n c y0 y1 y2 y3 y4 y5 y6 y7 e7 e6 e5 e4 e3 e2 e1 e0 : ℕ) : Type 0 where
  pub at7 : e7 ≡ after_zeros (n + 7 + 1) (bit_xor (c / 256) y0 * 256)
  pub at6 : e6 ≡ after_zeros (n + 6 + 1) (bit_xor (c % 256) y1 * 256)
  pub at5 : e5 ≡ after_zeros (n + 5 + 1) (y2 * 256)
  pub at4 : e4 ≡ after_zeros (n + 4 + 1) (y3 * 256)
  pub at3 : e3 ≡ after_zeros (n + 3 + 1) (y4 * 256)
  pub at2 : e2 ≡ after_zeros (n + 2 + 1) (y5 * 256)
  pub at1 : e1 ≡ after_zeros (n + 1 + 1) (y6 * 256)
  pub at0 : e0 ≡ after_zeros (n + 1) (y7 * 256)

pub update16_8_bytes_is : (n c y0 y1 y2 y3 y4 y5 y6 y7 e7 e6 e5 e4 e3 e2 e1 e0 : ℕ) → c < 65536 → y0 < 256 → y1 < 256 → y2 < 256 → y3 < 256 → y4 < 256 → y5 < 256 → y6 < 256 → y7 < 256
    → TableLookups n c y0 y1 y2 y3 y4 y5 y6 y7 e7 e6 e5 e4 e3 e2 e1 e0
    → bit_xor (bit_xor (bit_xor (bit_xor (bit_xor (bit_xor (bit_xor e5 e4) e3) e2) e1) e0) e7) e6 ≡ after_zeros n (update_crc16 c (y0 ∷ y1 ∷ y2 ∷ y3 ∷ y4 ∷ y5 ∷ y6 ∷ y7 ∷ []))
unfolding shares
update16_8_bytes_is n c y0 y1 y2 y3 y4 y5 y6 y7 e7 e6 e5 e4 e3 e2 e1 e0 h b0 b1 b2 b3 b4 b5 b6 b7 l =
    let hi = bit_xor (c / 256) y0 in
    let lo = bit_xor (c % 256) y1 in
    let p7 = share (n + 8) (n + 7 + 1) hi e7 (xor_lt 8 (c / 256) y0 (omega arith) b0) (omega arith) l.at7 in
    let p6 = share (n + 7) (n + 6 + 1) lo e6 (xor_lt 8 (c % 256) y1 (omega arith) b1) (omega arith) l.at6 in
    let p5 = share (n + 6) (n + 5 + 1) y2 e5 b2 (omega arith) l.at5 in
    let p4 = share (n + 5) (n + 4 + 1) y3 e4 b3 (omega arith) l.at4 in
    let p3 = share (n + 4) (n + 3 + 1) y4 e3 b4 (omega arith) l.at3 in
    let p2 = share (n + 3) (n + 2 + 1) y5 e2 b5 (omega arith) l.at2 in
    let p1 = share (n + 2) (n + 1 + 1) y6 e1 b6 (omega arith) l.at1 in
    let p0 = share (n + 1) (n + 1) y7 e0 b7 refl l.at0 in
    let alone = bit_xor (bit_xor (bit_xor (bit_xor (bit_xor e5 e4) e3) e2) e1) e0 in
    let last : alone ≡ bit_xor e5 (bit_xor e4 (bit_xor e3 (bit_xor e2 (bit_xor e1 (bit_xor e0 0))))) =
    simp xor_assoc (ap (λ z. bit_xor e5 (bit_xor e4 (bit_xor e3 (bit_xor e2 (bit_xor e1 z))))) (sym (xor_zero_r e0))) in
    let grouped : bit_xor (bit_xor alone e7) e6 ≡ bit_xor e7 (bit_xor e6 (bit_xor e5 (bit_xor e4 (bit_xor e3 (bit_xor e2 (bit_xor e1 (bit_xor e0 0))))))) =
    xor_assoc alone e7 e6 ∙ xor_comm alone (bit_xor e7 e6) ∙ xor_assoc e7 e6 alone ∙ ap (λ z. bit_xor e7 (bit_xor e6 z)) last in
    grouped
    ∙ ap₂ bit_xor p7 (ap₂ bit_xor p6 (ap₂ bit_xor p5 (ap₂ bit_xor p4 (ap₂ bit_xor p3 (ap₂ bit_xor p2 (ap₂ bit_xor p1 (ap (λ z. bit_xor z 0) p0)))))))
    ∙ sym (ap (after_zeros n) (absorbed c y0 y1 (y2 ∷ y3 ∷ y4 ∷ y5 ∷ y6 ∷ y7 ∷ []) h b0 b1) ∙ from_none n (hi ∷ lo ∷ y2 ∷ y3 ∷ y4 ∷ y5 ∷ y6 ∷ y7 ∷ []))

first_eight : (bs : List ℕ) → 8 ≤ length bs
    → take 8 bs ≡ get_or bs 0 0 ∷ get_or bs 1 0 ∷ get_or bs 2 0 ∷ get_or bs 3 0 ∷ get_or bs 4 0 ∷ get_or bs 5 0 ∷ get_or bs 6 0 ∷ get_or bs 7 0 ∷ []
first_eight (y0 ∷ y1 ∷ y2 ∷ y3 ∷ y4 ∷ y5 ∷ y6 ∷ y7 ∷ bs) e = refl
first_eight _ e = absurd (omega arith)

pub eight_of : (i : ℕ) (bs : List ℕ) → i + 8 ≤ length bs
    → take 8 (drop i bs) ≡ get_or bs i 0 ∷ get_or bs (i + 1) 0 ∷ get_or bs (i + 2) 0 ∷ get_or bs (i + 3) 0 ∷ get_or bs (i + 4) 0 ∷ get_or bs (i + 5) 0 ∷ get_or bs (i + 6) 0 ∷ get_or bs (i + 7) 0 ∷ []
eight_of i bs e = simp (get_or-drop, add-zero) at (first_eight (drop i bs) (omega (arith, length-drop i bs)))

-- no zeros follow
pub none_more : (c : ℕ) → after_zeros 0 c ≡ c
none_more c = divide_none 16 0x18005 c

pub eight_alone : (c e i : ℕ) (bs xs : List ℕ) → xs ≡ take 8 (drop i bs) → e ≡ after_zeros 0 (update_crc16 c (take 8 (drop 0 xs))) → e ≡ update_crc16 c (take 8 (drop i bs))
eight_alone c e i bs xs q p =
    let ys = take 8 (drop i bs) in
    p ∙ none_more (update_crc16 c (take 8 xs)) ∙ ap (λ z. update_crc16 c (take 8 z)) q ∙ ap (update_crc16 c) (take_all 8 ys (omega (arith, length-take 8 (drop i bs))))

-- what the last eight bytes add, and the CRC of the first eight after eight bytes of zeros
pub update16_16_bytes_is : (c e f : ℕ) (bs : List ℕ) → c < 65536 → length bs ≡ 16 → e ≡ after_zeros 0 (update_crc16 0 (take 8 (drop 8 bs))) → f ≡ after_zeros 8 (update_crc16 c (take 8 (drop 0 bs))) → bit_xor e f ≡ update_crc16 c bs
update16_16_bytes_is c e f bs h l p q =
    let xs = take 8 bs in
    let ys = take 8 (drop 8 bs) in
    let n : length ys ≡ 8 = omega (arith, length-take 8 (drop 8 bs), length-drop 8 bs) in
    let rest : ys ≡ drop 8 bs = take_all 8 (drop 8 bs) (omega (arith, length-drop 8 bs)) in
    let whole : xs ++ ys ≡ bs = ap (λ z. xs ++ z) rest ∙ take-append-drop 8 bs in
    let a = update_crc16 c xs in
    let b : a < 65536 = update_crc_lt 16 0x18005 (omega arith) (omega arith) (omega arith) xs c (omega arith) h in
    let k : 8 ≡ 0 + length ys = omega arith in
    let first : f ≡ after_zeros (0 + length ys) a = q ∙ ap (λ m. after_zeros m a) k in
    xor_comm e f ∙ ap₂ bit_xor first (p ∙ from_none 0 ys) ∙ sym (apart 0 ys a b)
    ∙ none_more (update_crc16 a ys) ∙ update_crc-append 16 0x18005 xs ys c ∙ ap (update_crc16 c) whole

-- ---- pieces

pub update_crc-piece : (d p n c e : ℕ) (bs : List ℕ) (i j : ℕ) → j ≡ i + n → e ≡ update_crc d p c (take n (drop i bs)) → update_crc d p e (drop j bs) ≡ update_crc d p c (drop i bs)
update_crc-piece d p n c e bs i j m k =
    ap₂ (λ s m. update_crc d p s (drop m bs)) k m ∙ update_crc-append d p (take n (drop i bs)) (drop (i + n) bs) c
    ∙ ap (update_crc d p c) (ap (λ r. take n (drop i bs) ++ r) (sym (drop-drop n i bs)) ∙ take-append-drop n (drop i bs))

pub piece_at : (n k i j : ℕ) (bs : List ℕ) (d : List ℕ) → i < k → j ≡ n * i → get_or (first_chunks n k bs) i d ≡ take n (drop j bs)
piece_at n zero i j bs d h e = absurd (omega arith)
piece_at n (suc k) zero j bs d h e = let z : j ≡ 0 = e ∙ mul_comm n 0 ∙ omega arith in rw z refl
piece_at n (suc k) (suc i) j bs d h e =
    let m : j ≡ n + n * i = e ∙ mul-suc n i ∙ omega arith in
    piece_at n k i (n * i) (drop n bs) d (omega arith) refl ∙ ap (take n) (drop-drop (n * i) n bs ∙ ap (λ z. drop z bs) (sym m))
