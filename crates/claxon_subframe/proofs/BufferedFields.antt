-- Consecutive fields of one type, decoded from the buffered bits.
use Rattle.std.proofs.Common.{◌≡◌, Bool, ℕ, ◌+◌, ◌-◌, ◌<◌, ◌≤◌, List, ◌++◌, length, take, drop, set, refl, sym, ap, ap₂, ◌∙◌, arith, ℤ, of_z, to_z, w32, FitsSigned}
use Rattle.std.proofs.lemmas.Int.{to_z-of_z}
use Rattle.std.proofs.lemmas.List.{take_more_set, take_all, length-set, length-take, length-drop}
use Rattle.std.proofs.lemmas.Slice.{take-put_mid}
use borrow.Rule.Slice.PartMut.{put_mid, same_len_mid}
use Rattle.claxon_format.specs.Bits.{Bits}
use Rattle.claxon_format.specs.Codes.{Never}
use Rattle.claxon_format.specs.read.Reading.{Reading, Reads, Done, times_at, each_at}
use Rattle.claxon_format.proofs.Residuals.{Reads-times}
use Rattle.claxon_input.specs.BufferedBits.{bits_in_buffer, GivesBuffered, IsBufferOf, skipped_bits_at}
use Rattle.claxon_input.specs.declared.bits.buffered.BufferedBits.{BufferedBits}
use Rattle.claxon_input.specs.State.{State}
use Rattle.claxon_input.specs.Gives.{Consumes}
use Rattle.claxon_subframe.proofs.PartitionLoop.{front_replaced, length-range}
use Rattle.claxon_subframe.proofs.SkippedBits.{read_consumes}
use Rattle.claxon_input.proofs.FieldLoops.{TimesSoFar, with_front, times_add, times_next, times_push, times_several}

-- `count` fields were decoded to the front of xs
pub record FieldsSoFar {A : Type 0} (read : Bits → Reading Bool A) (xs : List A) (count : ℕ) (old new : BufferedBits) : Type 0 where
  pub so_far : (rest : Bits) → times_at count read (bits_in_buffer old ++ rest) ≡ Done (take count xs) (bits_in_buffer new ++ rest)

pub fields_begin : {A : Type 0} (read : Bits → Reading Bool A) (xs : List A) (a : BufferedBits) → FieldsSoFar read xs 0 a a
unfolding times_at each_at
fields_begin read xs a = record { so_far = λ rest. refl }

pub fields_next : {A : Type 0} {read : Bits → Reading Bool A} {xs : List A} {count : ℕ} (x : A) {a b c : BufferedBits} → count < length xs → FieldsSoFar read xs count a b → GivesBuffered b c read x → FieldsSoFar read (set xs count x) (count + 1) a c
fields_next {read = read} {xs = xs} {count = count} x {a = a} {b = b} {c = c} lt h e = record {
  so_far = λ rest. times_push read count (bits_in_buffer a ++ rest) (bits_in_buffer b ++ rest) (bits_in_buffer c ++ rest) (take count xs) x (h.so_far rest) (e rest)
      ∙ ap (λ (t : List _). Done t (bits_in_buffer c ++ rest)) (sym (take_more_set xs count x lt));
}

-- a group of fields, decoded after them
pub fields_group : {read : Bits → Reading Bool ℤ} {xs : List ℤ} {count : ℕ} (group : ℕ) (ys : List ℤ) {a b c : BufferedBits} → count + group ≤ length xs → length ys ≡ length (take (count + group - count) (drop count xs)) → FieldsSoFar read xs count a b
    → GivesBuffered b c (times_at (length ys) read) ys → (count + group ≤ length (put_mid count (count + group - count) xs ys)) × FieldsSoFar read (put_mid count (count + group - count) xs ys) (count + group) a c
fields_group {read = read} {xs = xs} {count = count} group ys {a = a} {b = b} {c = c} capacity same h e =
    let len : length ys ≡ group = same ∙ length-range count group xs capacity in
    let whole : length (put_mid count (count + group - count) xs ys) ≡ length xs = same_len_mid count (count + group - count) xs ys same in (
      omega arith,
      record {
        so_far = λ rest. times_add read count group (bits_in_buffer a ++ rest) (bits_in_buffer b ++ rest) (take count xs) (h.so_far rest) ∙ ap (with_front (take count xs)) (ap (λ (n : ℕ). times_at n read (bits_in_buffer b ++ rest)) (sym len) ∙ e rest)
            ∙ ap (λ (t : List ℤ). Done t (bits_in_buffer c ++ rest)) (sym (front_replaced count group xs ys capacity same));
      },
    )

-- what lies after them doesn't matter, and of the buffered bits only which they are
pub fields_same : {read : Bits → Reading Bool ℤ} {xs ys : List ℤ} {count : ℕ} {a b c : BufferedBits} → take count ys ≡ take count xs → bits_in_buffer c ≡ bits_in_buffer b → FieldsSoFar read xs count a b → FieldsSoFar read ys count a c
fields_same front bits h = record { so_far = λ rest. h.so_far rest ∙ ap₂ (λ (l : List ℤ) (t : Bits). Done l (t ++ rest)) (sym front) (sym bits) }

-- ---- fields read into the rest of a slice

fields_put : {read : Bits → Reading Bool ℤ} {n start : ℕ} {xs : List ℤ} (count : ℕ) (ys : List ℤ) {a b c : State Bool} → start ≤ length xs → count ≤ length ys → length ys ≡ length (take (length xs - start) (drop start xs)) → TimesSoFar read n xs start a b
    → Consumes b c (λ s m. times_at count read s ≡ Done (take count ys) m) → TimesSoFar read n (put_mid start (length xs - start) xs ys) (start + count) a c
fields_put {start = start} {xs = xs} count ys le few same h e =
    let capacity : length ys ≡ length xs - start = same ∙ omega (arith, length-take (length xs - start) (drop start xs), length-drop start xs) in
    let whole : length (put_mid start (length xs - start) xs ys) ≡ length xs = same_len_mid start (length xs - start) xs ys same in
    let full : take (start + (length xs - start)) (put_mid start (length xs - start) xs ys) ≡ take start xs ++ ys = take-put_mid start (length xs - start) xs ys (start + (length xs - start)) (omega arith) (omega arith) in
    times_several ys (put_mid start (length xs - start) xs ys) count (sym (take_all (start + (length xs - start)) (put_mid start (length xs - start) xs ys) (omega arith)) ∙ full) whole le few h e

-- the same, where they were decoded from the buffered bits, and these were then skipped
pub fields_skipped : {read : Bits → Reading Bool ℤ} {Code : ℤ → Bits → Type 0} (exact : Reads Bool ℤ read Code Never) (bits left count : ℕ) (ys : List ℤ) (from to : BufferedBits) {n start : ℕ} {xs : List ℤ} {a b c : State Bool}
    → bits ≡ length (bits_in_buffer from) → left ≡ length (bits_in_buffer to) → GivesBuffered from to (times_at count read) (take count ys) → IsBufferOf from b → start ≤ length xs → count ≤ length ys → length ys ≡ length (take (length xs - start) (drop start xs))
    → TimesSoFar read n xs start a b → Consumes b c (λ s m. skipped_bits_at (bits - left) s ≡ Done tt m) → TimesSoFar read n (put_mid start (length xs - start) xs ys) (start + count) a c
fields_skipped exact bits left count ys from to p q e here le few same h k = fields_put count ys le few same h (read_consumes (Reads-times count exact) bits left (take count ys) from to p q e here k)

pub fields_fit : (start count : ℕ) (xs ys : List ℤ) → start ≤ length xs → count ≤ length ys → length ys ≡ length (take (length xs - start) (drop start xs)) → start + count ≤ length (put_mid start (length xs - start) xs ys)
fields_fit start count xs ys le few same =
    let capacity : length ys ≡ length xs - start = same ∙ omega (arith, length-take (length xs - start) (drop start xs), length-drop start xs) in
    let whole : length (put_mid start (length xs - start) xs ys) ≡ length xs = same_len_mid start (length xs - start) xs ys same in
    omega arith

-- one more field
pub filled_one : {read : Bits → Reading Bool ℤ} {n i : ℕ} {xs : List ℤ} (x : ℤ) {a b c : State Bool} → FitsSigned w32 x → i < length xs → TimesSoFar read n xs i a b → Consumes b c (λ s m. read s ≡ Done x m)
    → (i + 1 ≤ length (set xs i (to_z w32 (of_z w32 x)))) × TimesSoFar read n (set xs i (to_z w32 (of_z w32 x))) (i + 1) a c
filled_one {i = i} {xs = xs} x f lt h k = rw (to_z-of_z w32 x f) (omega (arith, length-set xs i x), times_next x lt h k)
