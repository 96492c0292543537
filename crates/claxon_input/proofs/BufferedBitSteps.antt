-- Buffered bits, and bits that are skipped.
use Rattle.std.proofs.Common.{bit_and, ◌≡◌, ℕ, ◌+◌, ◌-◌, ◌*◌, ◌/◌, ◌%◌, ◌^◌, ◌<◌, ◌≤◌, ◌⊎◌, inl, inr, Bool, true, false, ltb, cond, List, [], ◌∷◌, ◌++◌, length, take, drop, Option, None, Some, refl, sym, ap, subst, ◌∙◌, append_assoc, arith, length-append}
use Rattle.std.specs.Prelude.{IfSome}
use Rattle.std.specs.Option.{option_map}
use Rattle.std.proofs.lemmas.Bool.{lt-ltb, le-ltb, ltb-true}
use Rattle.std.proofs.lemmas.List.{drop_at, take-append-drop}
use Rattle.claxon_format.specs.Bits.{Bits, bits, bits_of}
use Rattle.claxon_format.specs.read.Reading.{Done, Incomplete}
use Rattle.claxon_format.proofs.Bytes.{bits_of-append, length-bits_of}
use Rattle.claxon_format.proofs.Numbers.{length-bits}
use Rattle.claxon_input.specs.Bitstream.{BitState, left_in, TakesBits, BitsFailureOrEof}
use Rattle.claxon_input.specs.BufferedBits.{skipped_bits_at}
use Rattle.claxon_input.specs.Source.{Source, IsFront, IsKnown, Skips, Takes, ReadFailedOrEof, SourceReadFailed}
use Rattle.claxon_input.specs.State.{remaining_as, bits_after}
use Rattle.claxon_input.specs.Gives.{Consumes, ReadFailedOrRemaining}
use Rattle.claxon_input.proofs.BitSteps.{bits_both, fetched, cut_in_cache, bits_failure_or_eof}
use Rattle.claxon_input.proofs.States.{state_of_bits, consumed, failure}

-- ---- the buffered bits come first

pub is_buffer_of : (left : Bits) (o : Option (List ℕ)) (bytes : List ℕ) → IsFront bytes o → IsKnown o → (rest : Bits) × (remaining_as (bits_after left) o ≡ (left ++ bits_of (take 65536 bytes)) ++ rest)
is_buffer_of left None bytes h t = absurd t
is_buffer_of left (Some all) bytes h t =
    let part = take 65536 bytes in
    let others = drop 65536 bytes ++ h.0 in
    let whole : all ≡ part ++ others = h.1 ∙ ap (λ (x : List ℕ). x ++ h.0) (sym (take-append-drop 65536 bytes)) ∙ append_assoc part (drop 65536 bytes) h.0 in (
      bits_of others,
      ap (λ (x : List ℕ). left ++ bits_of x) whole ∙ ap (λ (x : Bits). left ++ x) (bits_of-append part others) ∙ sym (append_assoc left (bits_of part) (bits_of others)),
    )

-- ---- bits that are skipped

pub skipped_bits_done : (n : ℕ) (t m : Bits) → length t ≡ n → skipped_bits_at n (t ++ m) ≡ Done tt m
unfolding skipped_bits_at
skipped_bits_done n t m e =
    let k : ltb (length (t ++ m)) n ≡ false = le-ltb _ _ (omega (arith, length-append t m)) in
    rw (k, drop_at t m n e) refl

too_few : (n : ℕ) (s : Bits) → length s < n → skipped_bits_at n s ≡ Incomplete
unfolding skipped_bits_at
too_few n s h = let k : ltb (length s) n ≡ true = lt-ltb _ _ h in rw k refl

pub skipped_bits_is : (n : ℕ) (s m : Bits) → skipped_bits_at n s ≡ Done tt m → m ≡ drop n s
unfolding skipped_bits_at
skipped_bits_is n s m e = go (ltb (length s) n) e
  where
    go : (b : Bool) → cond b Incomplete (Done (tt {0}) (drop n s)) ≡ Done (tt {0}) m → m ≡ drop n s
    go true h = absurd cc
    go false h = cc

pub not_skipped_bits : (n : ℕ) (s : Bits) → skipped_bits_at n s ≡ Incomplete → length s < n
unfolding skipped_bits_at
not_skipped_bits n s e = go (ltb (length s) n) refl e
  where
    go : (b : Bool) → ltb (length s) n ≡ b → cond b Incomplete (Done (tt {0}) (drop n s)) ≡ Incomplete → length s < n
    go true h k = ltb-true (length s) n h
    go false h k = absurd cc

pub consumes_skipped_bits : {a b : BitState} {t : Bits} (n : ℕ) → TakesBits a b t → length t ≡ n → Consumes (state_of_bits a) (state_of_bits b) (λ s m. skipped_bits_at n s ≡ Done tt m)
consumes_skipped_bits {t = t} n h e = consumed (λ s m. skipped_bits_at n s ≡ Done tt m) h (λ m. skipped_bits_done n t m e)

incomplete_cause : (left : Bits) (o : Option (List ℕ)) (few n : ℕ) (F : Type 0) → length left + 8 * few ≤ n → IfSome o (λ all. (length all < few) ⊎ F) → IfSome (option_map (λ xs. left ++ bits_of xs) o) (λ all. (length all < n) ⊎ F)
incomplete_cause left None few n F e h = tt
incomplete_cause left (Some all) few n F e (inl h) = inl (omega (arith, length-append left (bits_of all), length-bits_of all))
incomplete_cause left (Some all) few n F e (inr h) = inr h

-- too few bytes remained for the skipped bits
pub failure_or_skip : (a : BitState) (s : Source ℕ) (few n : ℕ) → length a.left + 8 * few ≤ n → ReadFailedOrEof a.source s few → ReadFailedOrRemaining (state_of_bits a) (state_of_bits (left_in 0 0 s)) (λ x. skipped_bits_at n x ≡ Incomplete)
unfolding bits
failure_or_skip a s few n e h = failure a (left_in 0 0 s) (λ x. skipped_bits_at n x ≡ Incomplete) (λ x. length x < n) h.rest (incomplete_cause a.left a.source.remaining few n (SourceReadFailed a.source s) e h.cause) (too_few n)

-- the left-over bits and whole bytes were consumed
pub bytes_skipped : (a : BitState) (s : Source ℕ) (few : ℕ) → Skips a.source s few → (t : Bits) × (length t ≡ length a.left + 8 * few) × TakesBits a (left_in 0 0 s) t
unfolding bits
bytes_skipped a s few h =
    (a.left ++ bits_of h.0, length-append a.left (bits_of h.0) ∙ omega (arith, length-bits_of h.0, h.1), record { bytes = h.0; taken = h.2; split = sym (nothing (a.left ++ bits_of h.0)) })
  where
    nothing : (xs : Bits) → xs ++ [] ≡ xs
    nothing [] = refl
    nothing (x ∷ xs) = ap (λ (l : Bits). x ∷ l) (nothing xs)

pub failure_or_last : (a : BitState) (m s : Source ℕ) (few n : ℕ) → length a.left + 8 * few < n → Skips a.source m few → ReadFailedOrEof m s 1 → ReadFailedOrRemaining (state_of_bits a) (state_of_bits (left_in 0 0 s)) (λ x. skipped_bits_at n x ≡ Incomplete)
unfolding bits
failure_or_last a m s few n e h k =
    let p = bytes_skipped a m few h in
    let r : BitsFailureOrEof a (left_in 0 0 s) n = bits_failure_or_eof n p.2 (omega (arith, p.1)) k in
    failure a (left_in 0 0 s) (λ x. skipped_bits_at n x ≡ Incomplete) (λ x. (length x < n) × (s.remaining ≡ Some [])) r.rest r.cause (λ x q. too_few n x q.0)

-- and then the upper bits of one more byte
pub last_skipped : (a : BitState) (m s : Source ℕ) (few n byte left : ℕ) → length a.left + 8 * few + (8 - left) ≡ n → left < 8 → Skips a.source m few → Takes m s (byte ∷ [])
    → Consumes (state_of_bits a) (state_of_bits (left_in (bit_and byte (1 * 2 ^ left % 18446744073709551616 - 1)) left s)) (λ x y. skipped_bits_at n x ≡ Done tt y)
last_skipped a m s few n byte left e lt h k =
    let p = bytes_skipped a m few h in
    let back : 8 - (8 - left) ≡ left = omega arith in
    let cut = cut_in_cache s byte 8 (8 - left) (omega arith) (omega arith) in
    let taken : TakesBits (left_in byte 8 s) (left_in (bit_and byte (1 * 2 ^ left % 18446744073709551616 - 1)) left s) (bits (8 - left) (byte / 2 ^ left))
    = subst (λ (j : ℕ). TakesBits (left_in byte 8 s) (left_in (bit_and byte (1 * 2 ^ j % 18446744073709551616 - 1)) j s) (bits (8 - left) (byte / 2 ^ j))) back cut in
    consumes_skipped_bits n (bits_both (fetched p.0 byte p.2 k) taken) (length-append p.0 (bits (8 - left) (byte / 2 ^ left)) ∙ omega (arith, length-bits (8 - left) (byte / 2 ^ left), p.1))
