-- Bytes that begin with the sync code of a frame, or with none.
use Rattle.std.proofs.Common.{◌≡◌, ◌⊎◌, inl, inr, ℕ, ◌+◌, ◌*◌, ◌/◌, ◌%◌, ◌^◌, ◌<◌, Bool, true, false, not, eqb, List, [], ◌∷◌, ◌++◌, length, take, refl, sym, ap, ap₂, ◌∙◌, arith, append_assoc, append-nil, length-append}
use Rattle.std.specs.Prelude.{Option}
use Rattle.std.proofs.lemmas.Bool.{eqb-true}
use Rattle.std.proofs.lemmas.List.{take_at}
use Rattle.std.proofs.lemmas.List.Elements.{All-head}
use Rattle.claxon.specs.Bits.{Bits, bits, bits_of, number}
use Rattle.claxon.specs.Crc.{ByteAligned, WithCrc, WithCrcFault, bit, crc16, crc8}
use Rattle.claxon.specs.Fault.{Fault, HeaderCrc, SyncMissing}
use Rattle.claxon.specs.Frame.{Block, Frame, FrameBody, FrameBodyFault, FrameBytesFault, FrameFault, StreamFormat, known_bit_depth}
use Rattle.claxon.specs.Header.{Fields, FieldsCode, FieldsFault, HeaderFault}
use Rattle.claxon_blocks.specs.Frames.{IsNotWhole}
use Rattle.claxon.proofs.Bytes.{bits_of-append, length-bits_of}
use Rattle.claxon.proofs.CodedNumber.{bits-add}
use Rattle.claxon.proofs.Numbers.{bits-same, length-bits, number-bits}
use Rattle.claxon_verify.specs.Trailing.{AreBytes}

-- The bits begin with the sync code.
abbrev pub Syncs : Bits → Type 0
Syncs x = (rest : Bits) × (x ≡ bits 14 0x3ffe ++ rest)

more_bits : (x y : Bits) → Syncs x → Syncs (x ++ y)
more_bits x y (rest, e) = (rest ++ y, ap (λ (l : Bits). l ++ y) e ∙ append_assoc (bits 14 0x3ffe) rest y)

along : (x y : Bits) → x ≡ y → Syncs y → Syncs x
along x y e (rest, is) = (rest, e ∙ is)

eight_ones : bits 14 0x3ffe ≡ bits 8 255 ++ bits 6 62
unfolding bits
eight_ones = refl

-- The first byte is 255.
pub first_is_255 : (t : List ℕ) → AreBytes t → Syncs (bits_of t) → (others : List ℕ) × (t ≡ 255 ∷ others)
unfolding bits_of
first_is_255 [] bytes (rest, e) = absurd (let n = ap length e in omega (arith, n, length-append (bits 14 0x3ffe) rest, length-bits 14 0x3ffe))
first_is_255 (y ∷ t) bytes (rest, e) =
    let all : bits 8 y ++ bits_of t ≡ bits 8 255 ++ (bits 6 62 ++ rest) = e ∙ ap (λ (l : Bits). l ++ rest) eight_ones ∙ append_assoc (bits 8 255) (bits 6 62) rest in
    let front : bits 8 y ≡ bits 8 255 = sym (take_at (bits 8 y) (bits_of t) 8 (length-bits 8 y)) ∙ ap (take 8) all ∙ take_at (bits 8 255) (bits 6 62 ++ rest) 8 (length-bits 8 255) in
    let same : y % 2 ^ 8 ≡ 255 % 2 ^ 8 = sym (number-bits 8 y) ∙ ap number front ∙ number-bits 8 255 in
    let small : y < 256 = All-head (λ (x : ℕ). x < 256) y t bytes in
    let is : y ≡ 255 = omega (arith, same, small) in
    (t, ap (λ (x : ℕ). x ∷ t) is)

-- ---- frames

fields_sync : (f : Fields) (t : Bits) → FieldsCode f t → Syncs t
fields_sync f t (size_code, rate_code, k, x, y, z, some, most, rate, channels, depth, known, number, large, size, after, is) = (
  (bits 1 0 ++ bits 1 (bit f.variable)) ++ ((bits 4 size_code ++ bits 4 rate_code) ++ ((bits 4 f.channel_code ++ (bits 3 f.bit_depth_code ++ bits 1 0)) ++ (x ++ (y ++ z)))),
  is ∙ append_assoc (bits 14 0x3ffe) (bits 1 0 ++ bits 1 (bit f.variable)) ((bits 4 size_code ++ bits 4 rate_code) ++ ((bits 4 f.channel_code ++ (bits 3 f.bit_depth_code ++ bits 1 0)) ++ (x ++ (y ++ z)))),
)

with_crc_syncs : (f : Fields) (t : Bits) → WithCrc 8 crc8 FieldsCode f t → Syncs t
with_crc_syncs f t (x, fields, is) = along t (x ++ bits 8 (crc8 x)) is (more_bits x (bits 8 (crc8 x)) (fields_sync f x fields))

body_syncs : (stream : Option StreamFormat) (b : Block) (t : Bits) → FrameBody stream b t → Syncs t
body_syncs stream b t (h, coded, front, after, header, subframes, decorrelation, time, is) = along t (front ++ after) is (more_bits front after (with_crc_syncs h.fields front header.0))

aligned_syncs : (stream : Option StreamFormat) (b : Block) (t : Bits) → ByteAligned (FrameBody stream) b t → Syncs t
aligned_syncs stream b t (y, p, body, padding, is) = along t (y ++ p) is (more_bits y p (body_syncs stream b y body))

-- A frame begins with it.
pub frame_syncs : (stream : Option StreamFormat) (b : Block) (t : List ℕ) → Frame stream b t → Syncs (bits_of t)
frame_syncs stream b t (x, aligned, is) = along (bits_of t) (x ++ bits 16 (crc16 x)) is (more_bits x (bits 16 (crc16 x)) (aligned_syncs stream b x aligned))

-- ---- faults

-- It is the fault that there is none, in two bytes, or the bits begin with it.
abbrev SyncsOr : Fault → Bits → Type 0
SyncsOr f t = ((f ≡ SyncMissing) × (length t ≡ 16)) ⊎ Syncs t

fields_fault : (f : Fault) (t : Bits) → FieldsFault f t → SyncsOr f t
fields_fault f t (inl never) = absurd never
fields_fault f t (inr (n, u, v, (small, is), inl (bad, same, none), joined)) = inl (same, (let k = ap length joined in let j : length u ≡ 16 = ap length is ∙ length-bits 16 n in let i = ap length none in omega (arith, i, j, k, length-append u v)))
fields_fault f t (inr (n, u, v, (small, is), inr (good, more), joined)) =
    let sync : n / 2 ^ 2 ≡ 0x3ffe = eqb-true (n / 4) 0x3ffe (not_false (eqb (n / 4) 0x3ffe) good) in
    let front : u ≡ bits 14 0x3ffe ++ bits 2 n = is ∙ bits-add 14 2 n ∙ ap (λ (k : ℕ). bits 14 k ++ bits 2 n) sync in
    inr (along t (u ++ v) joined (more_bits u v (bits 2 n, front)))
  where
    not_false : (b : Bool) → not b ≡ false → b ≡ true
    not_false true e = refl
    not_false false e = absurd cc

with_crc_fault : (f : Fault) (t : Bits) → WithCrcFault 8 crc8 HeaderCrc FieldsCode FieldsFault f t → SyncsOr f t
with_crc_fault f t (inl fields) = fields_fault f t fields
with_crc_fault f t (inr (fields, u, v, code, more, joined)) = inr (along t (u ++ v) joined (more_bits u v (fields_sync fields u code)))

header_fault : (known : Option ℕ) (f : Fault) (t : Bits) → HeaderFault known f t → SyncsOr f t
header_fault known f t (inl fields) = with_crc_fault f t fields
header_fault known f t (inr (fields, u, v, code, more, joined)) = inr (along t (u ++ v) joined (more_bits u v (with_crc_syncs fields u code)))

body_fault : (stream : Option StreamFormat) (f : Fault) (t : Bits) → FrameBodyFault stream f t → SyncsOr f t
body_fault stream f t (inl header) = header_fault (known_bit_depth stream) f t header
body_fault stream f t (inr (h, u, v, code, more, joined)) = inr (along t (u ++ v) joined (more_bits u v (with_crc_syncs h.fields u code.0)))

frame_fault : (stream : Option StreamFormat) (f : Fault) (t : Bits) → FrameFault stream f t → SyncsOr f t
frame_fault stream f t (inl body) = body_fault stream f t body
frame_fault stream f t (inr (b, u, v, code, more, joined)) = inr (along t (u ++ v) joined (more_bits u v (aligned_syncs stream b u code)))

-- A fault of a frame is that there is none, in two bytes, or they begin with it.
pub fault_syncs : (stream : Option StreamFormat) (f : Fault) (t : List ℕ) → FrameBytesFault stream f t → ((f ≡ SyncMissing) × (length t ≡ 2)) ⊎ Syncs (bits_of t)
fault_syncs stream f t (u, padding, fault, long, is) = elim (frame_fault stream f u fault) [
  | inl none ↦ inl (none.0, (let sixteen = none.1 in let k : 8 * length t ≡ length u + length padding = sym (length-bits_of t) ∙ ap length is ∙ length-append u padding in omega (arith, sixteen, long, k)))
  | inr syncs ↦ inr (along (bits_of t) (u ++ padding) is (more_bits u padding syncs))
]

-- ---- frames that aren't whole

halves : (x y : ℕ) → bits 16 (x % 256 * 256 + y % 256) ≡ bits 8 x ++ bits 8 y
halves x y =
    let n : ℕ = x % 256 * 256 + y % 256 in
    bits-add 8 8 n ∙ ap₂ (λ (s t : Bits). s ++ t) (bits-same 8 (n / 2 ^ 8) x (omega arith)) (bits-same 8 n y (omega arith))

two_bytes : (x y : ℕ) → bits_of (x ∷ y ∷ []) ≡ bits 16 (x % 256 * 256 + y % 256) ++ []
unfolding bits_of
two_bytes x y = sym (append_assoc (bits 8 x) (bits 8 y) []) ∙ ap (λ (s : Bits). s ++ []) (sym (halves x y))

no_sync : (stream : Option StreamFormat) (x y : ℕ) → not (eqb ((x % 256 * 256 + y % 256) / 4) 0x3ffe) ≡ true → FrameBytesFault stream SyncMissing (x ∷ y ∷ [])
no_sync stream x y bad =
    let n : ℕ = x % 256 * 256 + y % 256 in
    let long = length-bits_of (x ∷ y ∷ []) in
    (bits_of (x ∷ y ∷ []), [], inl (inl (inl (inl (inr (n, bits 16 n, [], (omega arith, refl), inl (bad, refl, refl), two_bytes x y))))), omega (arith, long), sym (append-nil (bits_of (x ∷ y ∷ []))))

pub not_whole_syncs : (stream : Option StreamFormat) (s : List ℕ) → IsNotWhole stream s → Syncs (bits_of s)
not_whole_syncs stream [] n = absurd (let two = n.0 in omega (arith, two))
not_whole_syncs stream (x ∷ []) n = absurd (let two = n.0 in omega (arith, two))
not_whole_syncs stream (x ∷ y ∷ s) n = go (eqb ((x % 256 * 256 + y % 256) / 4) 0x3ffe) refl
  where
    go : (q : Bool) → eqb ((x % 256 * 256 + y % 256) / 4) 0x3ffe ≡ q → Syncs (bits_of (x ∷ y ∷ s))
    go true e =
        let sync : (x % 256 * 256 + y % 256) / 2 ^ 2 ≡ 0x3ffe = eqb-true ((x % 256 * 256 + y % 256) / 4) 0x3ffe e in
        let front : bits 16 (x % 256 * 256 + y % 256) ≡ bits 14 0x3ffe ++ bits 2 (x % 256 * 256 + y % 256) = bits-add 14 2 (x % 256 * 256 + y % 256) ∙ ap (λ (m : ℕ). bits 14 m ++ bits 2 (x % 256 * 256 + y % 256)) sync in
        along (bits_of (x ∷ y ∷ s)) (bits_of (x ∷ y ∷ []) ++ bits_of s) (bits_of-append (x ∷ y ∷ []) s)
        (more_bits (bits_of (x ∷ y ∷ [])) (bits_of s) (along (bits_of (x ∷ y ∷ [])) (bits 16 (x % 256 * 256 + y % 256) ++ []) (two_bytes x y) (more_bits (bits 16 (x % 256 * 256 + y % 256)) [] (bits 2 (x % 256 * 256 + y % 256), front))))
    go false e = absurd (n.1.no_fault SyncMissing (x ∷ y ∷ []) s (no_sync stream x y (ap not e)) refl)
