-- The fault of a frame whose header has the bit depth code for 32 bits, and the bytes that say so.
use Rattle.std.proofs.Common.{◌≡◌, ℕ, suc, ◌+◌, ◌*◌, ◌/◌, ◌%◌, ◌^◌, ◌<◌, Bool, true, false, not, eqb, ltb, ◌&&◌, List, [], ◌∷◌, ◌++◌, length, take, drop, replicate, inl, inr, refl, sym, ap, ap₂, subst, ◌∙◌, arith, append_assoc, append-nil}
use Rattle.std.specs.Prelude.{IsTrue, Option, Result, Err, ◌↔◌}
use Rattle.std.proofs.lemmas.Bool.{eqb-true, ltb-true, le-ltb}
use Rattle.std.proofs.lemmas.List.{take-append-drop}
use Rattle.std.proofs.lemmas.Bool.Decides.{nat_tests}
use Rattle.claxon.specs.Bits.{Bits, bits, bits_of, number}
use Rattle.claxon.specs.Error.{IsFault}
use Rattle.claxon.specs.Errors.{Error}
use Rattle.claxon.specs.Errors.TheVariants.{FormatError, IoError, OutOfMemory, Unsupported}
use Rattle.claxon.specs.Fault.{BitDepthReserved, Fault}
use Rattle.claxon.specs.Frame.{FrameBytesFault, StreamFormat}
use Rattle.claxon.specs.FrameReader.{ReadsFrame}
use Rattle.claxon.specs.Header.{bit_depth_reserved, says_32_bits}
use Rattle.claxon.specs.Source.{Source}
use Rattle.claxon.specs.State.{State, RemainingIsKnown, final_values}
use Rattle.claxon.specs.RunningReader.{running_value}
use Rattle.claxon.specs.RunningReaders.{RunningReader}
use Rattle.claxon.specs.read.Bytes.{big_endian}
use Rattle.claxon.proofs.CodedNumber.{bits-add}
use Rattle.claxon.proofs.Numbers.{bits-same}
use Rattle.claxon.proofs.ByteNumbers.{number-bits_of}
use Rattle.claxon.proofs.Bytes.{length-bits_of}
use Rattle.claxon_blocks.specs.FirstBytes.{AreFirst}
use Rattle.claxon_blocks.specs.Frames.{FourSay32Bits, Is32BitFault, Says32Bits}
use Rattle.claxon_blocks.specs.declared.frames.first_bytes.FirstBytes.{FirstBytes}
use Rattle.claxon_blocks.proofs.BlockReads.{io_not_fault}
use Rattle.claxon_blocks.proofs.KeptBytes.{Keeps, after, are_first, are_kept, before, four_are_first, keeps_first, were_seen}

-- ---- four bytes that say so

four_bytes : (a b c d : ℕ) → big_endian (a ∷ b ∷ c ∷ d ∷ []) ≡ (a % 256 * 256 + b % 256) * 65536 + c % 256 * 256 + d % 256
unfolding big_endian
four_bytes a b c d = omega arith

both : (a b : Bool) → (a && b) ≡ true → (a ≡ true) × (b ≡ true)
both true b e = (refl, e)
both false b e = absurd cc

is_other : (m k : ℕ) → not (eqb m k) ≡ true → eqb m k ≡ false
is_other m k h = grind (arith, nat_tests)

-- what each test says
all_say : (n : ℕ) → says_32_bits n ≡ true → (n / 2 ^ 17 ≡ 0x7ffc) × (not (eqb (n / 2 ^ 12 % 2 ^ 4) 0) ≡ true) × (not (eqb (n / 2 ^ 8 % 2 ^ 4) 15) ≡ true) × (n / 2 ^ 4 % 2 ^ 4 < 11) × (n / 2 % 2 ^ 3 ≡ 7)
all_say n h =
    let a : Bool = eqb (n / 2 ^ 17) 0x7ffc in
    let b : Bool = not (eqb (n / 2 ^ 12 % 2 ^ 4) 0) in
    let c : Bool = not (eqb (n / 2 ^ 8 % 2 ^ 4) 15) in
    let d : Bool = ltb (n / 2 ^ 4 % 2 ^ 4) 11 in
    let e : Bool = eqb (n / 2 % 2 ^ 3) 7 in
    let p = both (((a && b) && c) && d) e h in
    let q = both ((a && b) && c) d p.0 in
    let r = both (a && b) c q.0 in
    let s = both a b r.0 in
    (eqb-true (n / 2 ^ 17) 0x7ffc s.0, s.1, r.1, ltb-true (n / 2 ^ 4 % 2 ^ 4) 11 q.1, eqb-true (n / 2 % 2 ^ 3) 7 p.1)

-- what is said of the fields of a header, of which x is the first two bytes, c the third and d the fourth
record FieldsSay (x c d : ℕ) : Type 0 where
  sync : not (eqb (x / 4) 0x3ffe) ≡ false
  unreserved : eqb (x / 2 % 2) 1 ≡ false
  size : eqb (c / 16) 0 ≡ false
  rate : eqb (c % 16) 15 ≡ false
  channels : ltb 10 (d / 16) ≡ false
  bit_depth : bit_depth_reserved (d / 2 % 8) ≡ true

sync_of : (x c d : ℕ) → c < 256 → d < 256 → (x * 65536 + c * 256 + d) / 2 ^ 17 ≡ 0x7ffc → (x / 4 ≡ 0x3ffe) × (x / 2 % 2 ≡ 0)
sync_of x c d lc ld e = (omega arith, omega arith)

size_of : (x c d : ℕ) → c < 256 → d < 256 → (x * 65536 + c * 256 + d) / 2 ^ 12 % 2 ^ 4 ≡ c / 16
size_of x c d lc ld = omega arith

rate_of : (x c d : ℕ) → c < 256 → d < 256 → (x * 65536 + c * 256 + d) / 2 ^ 8 % 2 ^ 4 ≡ c % 16
rate_of x c d lc ld = omega arith

channels_of : (x c d : ℕ) → c < 256 → d < 256 → (x * 65536 + c * 256 + d) / 2 ^ 4 % 2 ^ 4 ≡ d / 16
channels_of x c d lc ld = omega arith

bit_depth_of : (x c d : ℕ) → c < 256 → d < 256 → (x * 65536 + c * 256 + d) / 2 % 2 ^ 3 ≡ d / 2 % 8
bit_depth_of x c d lc ld = omega arith

fields_say : (x c d : ℕ) → c < 256 → d < 256 → says_32_bits (x * 65536 + c * 256 + d) ≡ true → FieldsSay x c d
fields_say x c d lc ld h =
    let n : ℕ = x * 65536 + c * 256 + d in
    let s = all_say n h in
    let sync = sync_of x c d lc ld s.0 in
    let few = s.3 in
    let channels = channels_of x c d lc ld in
    record {
      sync = subst (λ (k : ℕ). not (eqb k 0x3ffe) ≡ false) (sym sync.0) refl;
      unreserved = subst (λ (k : ℕ). eqb k 1 ≡ false) (sym sync.1) refl;
      size = subst (λ (k : ℕ). eqb k 0 ≡ false) (size_of x c d lc ld) (is_other (n / 2 ^ 12 % 2 ^ 4) 0 s.1);
      rate = subst (λ (k : ℕ). eqb k 15 ≡ false) (rate_of x c d lc ld) (is_other (n / 2 ^ 8 % 2 ^ 4) 15 s.2);
      channels = le-ltb 10 (d / 16) (omega (arith, few, channels));
      bit_depth = subst (λ (k : ℕ). bit_depth_reserved k ≡ true) (sym (sym (bit_depth_of x c d lc ld) ∙ s.4)) refl;
    }

halves : (a b : ℕ) → bits 16 (a % 256 * 256 + b % 256) ≡ bits 8 a ++ bits 8 b
halves a b =
    let x : ℕ = a % 256 * 256 + b % 256 in
    bits-add 8 8 x ∙ ap₂ (λ (s t : Bits). s ++ t) (bits-same 8 (x / 2 ^ 8) a (omega arith)) (bits-same 8 x b (omega arith))

joined : (a b c d : ℕ) → bits_of (a ∷ b ∷ c ∷ d ∷ []) ≡ bits 16 (a % 256 * 256 + b % 256) ++ (bits 8 c ++ (bits 8 d ++ []))
unfolding bits_of
joined a b c d =
    sym (append_assoc (bits 8 a) (bits 8 b) (bits 8 c ++ (bits 8 d ++ []))) ∙ ap (λ (s : Bits). s ++ (bits 8 c ++ (bits 8 d ++ []))) (sym (halves a b))

byte_is : (y : ℕ) → bits 8 y ≡ bits 8 (y % 256)
byte_is y = bits-same 8 y (y % 256) (omega arith)

module _ (stream : Option StreamFormat) where
  four_refused : (a b c d : ℕ) → FieldsSay (a % 256 * 256 + b % 256) (c % 256) (d % 256) → FrameBytesFault stream BitDepthReserved (a ∷ b ∷ c ∷ d ∷ [])
  four_refused a b c d h =
      let t : List ℕ = a ∷ b ∷ c ∷ d ∷ [] in
      let len : length (bits_of t) ≡ 32 = length-bits_of t in (
        bits_of t,
        [],
        inl (inl (inl (inl (inr (
          a % 256 * 256 + b % 256,
          bits 16 (a % 256 * 256 + b % 256),
          bits 8 c ++ (bits 8 d ++ []),
          (omega arith, refl),
          inr (
            h.sync,
            inr (
              h.unreserved,
              inr (
                c % 256,
                bits 8 c,
                bits 8 d ++ [],
                (omega arith, byte_is c),
                inr (h.size, inr (h.rate, inr (d % 256, bits 8 d, [], (omega arith, byte_is d), inr (h.channels, inl (h.bit_depth, refl, refl)), refl))),
                refl,
              ),
            ),
          ),
          joined a b c d,
        ))))),
        omega (arith, len),
        sym (append-nil (bits_of t)),
      )

  -- four bytes that say 32 bits are refused
  pub refused : (t : List ℕ) → length t ≡ 4 → says_32_bits (big_endian t) ≡ true → FrameBytesFault stream BitDepthReserved t
  refused (a ∷ b ∷ c ∷ d ∷ []) len says = four_refused a b c d (fields_say _ (c % 256) (d % 256) (omega arith) (omega arith) (subst (λ (n : ℕ). says_32_bits n ≡ true) (four_bytes a b c d) says))
  refused [] len says = absurd (omega (arith, len))
  refused (a ∷ []) len says = absurd (omega (arith, len))
  refused (a ∷ b ∷ []) len says = absurd (omega (arith, len))
  refused (a ∷ b ∷ c ∷ []) len says = absurd (omega (arith, len))
  refused (a ∷ b ∷ c ∷ d ∷ e ∷ r) len says = absurd (let k : suc (suc (suc (suc (suc (length r))))) ≡ 4 = len in omega arith)

-- ---- after a fault

-- any other error than a `FormatError` names another fault
pub not_reserved : (e : Error) → ((text : _) → e ≡ FormatError text → ⊥) → IsFault BitDepthReserved e → ⊥
not_reserved (FormatError text) other f = other text refl
not_reserved (Unsupported text) other f = let k = f.1 in absurd cc
not_reserved (IoError cause) other f = f
not_reserved OutOfMemory other f = f

pub fault_not_memory : {A : Type 0} (e : Error) → IsFault BitDepthReserved e → (let r : Result A Error = Err e in r) ≡ Err OutOfMemory → ⊥
fault_not_memory (FormatError text) f m = absurd cc
fault_not_memory (Unsupported text) f m = absurd cc
fault_not_memory (IoError cause) f m = f
fault_not_memory OutOfMemory f m = f

kept : {stream : Option StreamFormat} (a b : State ℕ) (e : Error) (fault : Fault) → IsFault fault e → ReadsFrame stream (Err e) a b → RemainingIsKnown a → RemainingIsKnown b × (final_values b ≡ final_values a)
kept a b (FormatError text) fault f h known = let k = (h.gives.fault refl).known known in (k.known, k.values)
kept a b (Unsupported text) fault f h known = let k = (h.gives.fault refl).known known in (k.known, k.values)
kept a b (IoError cause) fault f h known = absurd f
kept a b OutOfMemory fault f h known = absurd f

module _ {R : Type 0} (source : R → Source ℕ) (x y : RunningReader R FirstBytes) (len : length (running_value y).bytes ≡ 16) where
  module _ {stream : Option StreamFormat} (e : Error) (start : running_value x ≡ record { seen = 0; bytes = replicate 16 0; others = 0 }) (h : ReadsFrame stream (Err e) (before source x y) (after source x y)) (f : IsFault BitDepthReserved e) (known : RemainingIsKnown (before source x y)) where
    keeps_four : Keeps (running_value y) (after source x y).remaining (before source x y).remaining
    keeps_four = let k = kept (before source x y) (after source x y) e BitDepthReserved f h known in keeps_first source x y start known k.0 k.1

    said : FourSay32Bits (running_value y) → Says32Bits (before source x y).remaining
    said p =
        let k = four_are_first (running_value y) (after source x y).remaining (before source x y).remaining len keeps_four p.0 in
        let t : List ℕ = take 4 (before source x y).remaining in
        (t, drop 4 (before source x y).remaining, (k.0, subst (λ (n : ℕ). says_32_bits n ≡ true) (ap number k.1 ∙ number-bits_of t) p.1), sym (take-append-drop 4 (before source x y).remaining))

    seen : Says32Bits (before source x y).remaining → FourSay32Bits (running_value y)
    seen (t, rest, (four, says), all) = elim (h.promises.fault_is_complete BitDepthReserved t rest (refused stream t four says) (record { known = known; are = all })) [
      | inl p ↦ (
          let left : (after source x y).remaining ≡ rest = p.1.are in
          let is : (before source x y).remaining ≡ t ++ (after source x y).remaining = all ∙ ap (λ (r : List ℕ). t ++ r) (sym left) in
          let short : length t < 2 ^ 64 = omega (arith, four) in
          let enough = were_seen (running_value y) (after source x y).remaining (before source x y).remaining t t [] len keeps_four is short (sym (append-nil t)) (omega (arith, four)) in
          let same = are_kept (running_value y) (after source x y).remaining (before source x y).remaining t t [] len keeps_four is short (sym (append-nil t)) (omega (arith, four)) in
          let number_is : number (bits_of (take 4 (running_value y).bytes)) ≡ big_endian t = ap (λ (n : ℕ). number (bits_of (take n (running_value y).bytes))) (sym four) ∙ ap number same ∙ number-bits_of t in
          (omega (arith, four, enough), subst (λ (n : ℕ). says_32_bits n ≡ true) (sym number_is) says)
          )
      | inr (inl m) ↦ absurd (fault_not_memory e f m)
      | inr (inr i) ↦ absurd (io_not_fault BitDepthReserved e i.0 f)
    ]

  -- the kept bytes are the first of those before
  pub fault_keeps : {stream : Option StreamFormat} (e : Error) → running_value x ≡ record { seen = 0; bytes = replicate 16 0; others = 0 } → ReadsFrame stream (Err e) (before source x y) (after source x y)
      → (f : Fault) → IsFault f e → RemainingIsKnown (before source x y) → AreFirst (running_value y) (before source x y).remaining (after source x y).remaining
  fault_keeps e start h f is known =
      let k = kept (before source x y) (after source x y) e f is h known in
      are_first (running_value y) (after source x y).remaining (before source x y).remaining len (keeps_first source x y start known k.0 k.1)

  -- what was read says exactly whether the frame is refused because of that code
  pub tells : {stream : Option StreamFormat} (e : Error) → running_value x ≡ record { seen = 0; bytes = replicate 16 0; others = 0 } → ReadsFrame stream (Err e) (before source x y) (after source x y) → (is_32_bit : Bool)
      → (IsTrue is_32_bit ↔ (IsFault BitDepthReserved e × FourSay32Bits (running_value y))) → RemainingIsKnown (before source x y) → IsTrue is_32_bit ↔ Is32BitFault (before source x y).remaining e
  tells e start h is_32_bit claim known = (λ t. let p = claim.0 t in (p.0, said e start h p.0 known p.1), λ q. claim.1 (q.0, seen e start h q.0 known q.1))
