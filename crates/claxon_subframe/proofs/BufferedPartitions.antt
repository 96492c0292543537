-- Partitions decoded from the buffered bits.
use Rattle.std.proofs.Common.{◌≡◌, ◌≢◌, ℕ, ◌+◌, ◌-◌, ◌*◌, ◌%◌, ◌^◌, ◌<◌, ◌≤◌, Bool, false, eqb, List, [], ◌++◌, length, take, drop, replicate, map, sym, ap, ap₂, ◌∙◌, arith, ℤ}
use Rattle.std.specs.List.{flat_map}
use Rattle.std.proofs.lemmas.List.{map-append, take_all}
use Rattle.std.proofs.lemmas.Slice.{take-put_mid_below}
use borrow.Rule.Slice.PartMut.{put_mid}
use Rattle.claxon_format.proofs.Laws.{Reads-each, Reads-map, Reads-same}
use Rattle.claxon_format.proofs.Numbers.{Reads-number}
use Rattle.claxon_format.proofs.Residuals.{Reads-partition, some_never}
use Rattle.claxon_format.proofs.RiceCodes.{never}
use Rattle.claxon_format.specs.Bits.{Bits}
use Rattle.claxon_format.specs.read.Reading.{Reads, Done, each_at, times_at}
use Rattle.claxon_format.specs.Codes.{Never, EachWith, Mapped}
use Rattle.claxon_format.specs.Residual.{Partition, escape}
use Rattle.claxon_format.specs.read.Bits.{number_at, rice_code_at}
use Rattle.claxon_format.specs.read.Residual.{joined_at, partition_at}
use Rattle.claxon_input.specs.BufferedBits.{bits_in_buffer, GivesBuffered}
use Rattle.claxon_input.specs.declared.bits.buffered.BufferedBits.{BufferedBits}
use Rattle.claxon_subframe.specs.BufferedValues.{BufferedValuesAreRead}
use Rattle.claxon_subframe.specs.RiceCodes.{decoded, encoded_code_at}
use Rattle.claxon_subframe.specs.SubframeFields.{method_of}
use Rattle.claxon_subframe.specs.declared.subframe.RicePartitionType.{RicePartitionType}
use Rattle.claxon_subframe.proofs.JoinedPartitions.{joined_push}
use Rattle.claxon_subframe.proofs.PartitionLoop.{front_replaced}
use Rattle.claxon_subframe.proofs.RiceCodeShifts.{codes_decoded, decoded_front, mapped}
use Rattle.claxon_subframe.proofs.PartitionParameter.{IsRiceParameter, rice_parameter_of, partition_rice}

-- ---- consecutive partitions of one length

pub Reads-joined : (method n each : ℕ) → method < 2 → Reads Bool (List ℤ) (joined_at (partition_at method) (replicate n each)) (Mapped (flat_map (λ x. x)) (EachWith (Partition method) (replicate n each))) Never
Reads-joined method n each lt =
    Reads-map (flat_map (λ x. x)) (Reads-same (Reads-each (replicate n each) (λ l. Reads-partition method l lt)) (λ a t c. c) (λ a t c. c)
    (λ f t c. absurd ((some_never (Partition method) (replicate n each) (λ l. never)).none f t c)) (λ f t c. absurd c))

-- ---- the loop

-- `whole` partitions were decoded to the front of xs, as zigzag-encoded numbers
pub record BufferedPartitionsSoFar (method each whole : ℕ) (xs : List ℤ) (old new : BufferedBits) : Type 0 where
  pub so_far : GivesBuffered old new (joined_at (partition_at method) (replicate whole each)) (map decoded (take (whole * each) xs))

pub buffered_partitions_begin : (method each : ℕ) (xs : List ℤ) (a : BufferedBits) → BufferedPartitionsSoFar method each 0 xs a a
unfolding each_at
buffered_partitions_begin method each xs a = let none : 0 ≡ 0 * each = omega arith in record { so_far = λ rest. ap (λ (n : ℕ). Done (map decoded (take n xs)) (bits_in_buffer a ++ rest)) none }

pub buffered_partitions_next : (method each whole start : ℕ) (xs ys : List ℤ) (a b c : BufferedBits) → start ≡ whole * each → start + each ≤ length xs → length ys ≡ length (take (start + each - start) (drop start xs)) → length ys ≡ each → BufferedPartitionsSoFar method each whole xs a b
    → GivesBuffered b c (partition_at method (length ys)) (map decoded ys) → BufferedPartitionsSoFar method each (whole + 1) (put_mid start (start + each - start) xs ys) a c
buffered_partitions_next method each whole start xs ys a b c is capacity same len h e =
    let k : (whole + 1) * each ≡ start + each = grind (arith, is) in
    let new = put_mid start (start + each - start) xs ys in
    let part : take (whole * each) xs ++ ys ≡ take ((whole + 1) * each) new = ap (λ (n : ℕ). take n xs ++ ys) (sym is) ∙ sym (front_replaced start each xs ys capacity same) ∙ ap (λ (n : ℕ). take n new) (sym k) in
    let all : map decoded (take (whole * each) xs) ++ map decoded ys ≡ map decoded (take ((whole + 1) * each) new) = sym (map-append decoded (take (whole * each) xs) ys) ∙ ap (map decoded) part in
    record {
      so_far = λ rest. joined_push (partition_at method) each whole (bits_in_buffer a ++ rest) (bits_in_buffer b ++ rest) (bits_in_buffer c ++ rest) (map decoded (take (whole * each) xs)) (map decoded ys) (h.so_far rest) (ap (λ (n : ℕ). partition_at method n (bits_in_buffer b ++ rest)) (sym len) ∙ e rest)
          ∙ ap (λ (l : List ℤ). Done l (bits_in_buffer c ++ rest)) all;
    }

-- a partition that isn't complete changes only what follows them
pub buffered_partitions_stay : (method each whole start k : ℕ) (xs ys : List ℤ) (a b c : BufferedBits) → start ≡ whole * each → start ≤ length xs → bits_in_buffer c ≡ bits_in_buffer b → BufferedPartitionsSoFar method each whole xs a b
    → BufferedPartitionsSoFar method each whole (put_mid start k xs ys) a c
buffered_partitions_stay method each whole start k xs ys a b c is le same h =
    let front : take (whole * each) xs ≡ take (whole * each) (put_mid start k xs ys) = sym (take-put_mid_below start k xs ys (whole * each) (omega (arith, is)) le) in
    record { so_far = λ rest. h.so_far rest ∙ ap₂ (λ (l : List ℤ) (bs : Bits). Done (map decoded l) (bs ++ rest)) front (sym same) }

-- once all of them are zigzag-decoded in their place
pub buffered_partitions_decoded : {n : ℕ} (method each whole : ℕ) (xs ys : List ℤ) (a b : BufferedBits) → n ≡ whole * each → whole * each ≤ length xs → ys ≡ map decoded (take n xs) → BufferedPartitionsSoFar method each whole xs a b
    → GivesBuffered a b (joined_at (partition_at method) (replicate whole each)) (take (whole * each) (ys ++ drop n xs))
buffered_partitions_decoded method each whole xs ys a b same le e h rest =
    h.so_far rest ∙ ap (λ (l : List ℤ). Done l (bits_in_buffer b ++ rest)) (sym (decoded_front (whole * each) xs ys same le e))

pub buffered_partition_fits : (each whole most start len : ℕ) → start ≡ whole * each → whole < most → most * each ≤ len → start + each ≤ len
buffered_partition_fits each whole most start len is lt le = grind arith

pub buffered_partitions_fit : (each whole most start len : ℕ) → start ≡ whole * each → whole ≤ most → most * each ≤ len → start ≤ len
buffered_partitions_fit each whole most start len is le capacity = grind arith

-- ---- one partition

parameter_below : (n k : ℕ) (a b : BufferedBits) → GivesBuffered a b (number_at n) k → k < 2 ^ n
parameter_below n k a b e = let t = (Reads-number n).takes (bits_in_buffer a ++ []) k (bits_in_buffer b ++ []) (e []) in t.1.0

pub buffered_rice_parameter : (t : RicePartitionType) {n k : ℕ} (a b : BufferedBits) → n ≡ 4 + method_of t → GivesBuffered a b (number_at n) k → k ≢ 1 * 2 ^ n % 4294967296 - 1 → IsRiceParameter t k
buffered_rice_parameter t {n} {k} a b is e not = rice_parameter_of t n k is (parameter_below n k a b e) not

pub least_bits : (n k : ℕ) → n < 65536 → k ≤ 30 → n * (k + 1) < 4294967296
least_bits n k lt le = let p : n * (k + 1) ≤ n * 31 = grind (arith, le) in omega arith

-- a Rice parameter, and the encoded numbers of as many Rice codes as there are residual samples
pub rice_codes_partition : (method k n codes : ℕ) (xs : List ℤ) (a b c : BufferedBits) → n ≡ 4 + method → eqb k (escape method) ≡ false → length xs ≤ codes → codes ≤ length xs → GivesBuffered a b (number_at n) k
    → BufferedValuesAreRead (encoded_code_at k) b codes c xs → GivesBuffered a c (partition_at method (length xs)) (map decoded xs)
rice_codes_partition method k n codes xs a b c is not_escape all few number h rest =
    let whole : codes ≡ length xs = omega arith in
    let codes_are : times_at (length xs) (rice_code_at k) (bits_in_buffer b ++ rest) ≡ Done (map decoded xs) (bits_in_buffer c ++ rest) = ap (λ (j : ℕ). times_at j (rice_code_at k) (bits_in_buffer b ++ rest)) (sym whole) ∙ codes_decoded k codes (bits_in_buffer b ++ rest) ∙ ap (mapped (map decoded)) (h rest)
    ∙ ap (λ (l : List ℤ). Done (map decoded l) (bits_in_buffer c ++ rest)) (take_all codes xs all) in
    partition_rice method n (length xs) (bits_in_buffer a ++ rest) is not_escape (number rest) ∙ codes_are
