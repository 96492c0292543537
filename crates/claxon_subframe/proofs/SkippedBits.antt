-- Buffered bits that are decoded first and then skipped.
use Rattle.std.proofs.Common.{◌≡◌, Bool, ℕ, ◌+◌, ◌-◌, ◌≤◌, ◌++◌, length, drop, sym, ap, ◌∙◌, arith, length-append}
use Rattle.std.proofs.lemmas.List.{drop_at}
use Rattle.claxon_format.specs.Bits.{Bits}
use Rattle.claxon_format.specs.read.Reading.{Reading, Reads, Done, Incomplete}
use Rattle.claxon_format.specs.Codes.{Never}
use Rattle.claxon_input.specs.BufferedBits.{bits_in_buffer, GivesBuffered, IsBufferOf, skipped_bits_at}
use Rattle.claxon_input.specs.declared.bits.buffered.BufferedBits.{BufferedBits}
use Rattle.claxon_input.specs.State.{State}
use Rattle.claxon_input.specs.Gives.{Consumes, ReadFailedOrRemaining}
use Rattle.claxon_input.proofs.BufferedBitSteps.{skipped_bits_is, not_skipped_bits}
use Rattle.claxon_input.proofs.ConsecutiveCalls.{consumes_known, failure_or_known}

-- b is a after `bits - left` bits were skipped
pub record Skipped (bits left : ℕ) (a b : BufferedBits) (rest : Bits) : Type 0 where
  pub fewer : left ≤ bits
  pub skipped : drop (bits - left) (bits_in_buffer a ++ rest) ≡ bits_in_buffer b ++ rest

pub read_skipped : {A : Type 0} {read : Bits → Reading Bool A} {Code : A → Bits → Type 0} (exact : Reads Bool A read Code Never) (bits left : ℕ) (x : A) (a b : BufferedBits) (rest : Bits)
    → bits ≡ length (bits_in_buffer a) → left ≡ length (bits_in_buffer b) → read (bits_in_buffer a ++ rest) ≡ Done x (bits_in_buffer b ++ rest) → Skipped bits left a b rest
read_skipped exact bits left x a b rest p q e =
    let t = exact.takes (bits_in_buffer a ++ rest) x (bits_in_buffer b ++ rest) e in
    let len : length (bits_in_buffer a) + length rest ≡ length t.0 + (length (bits_in_buffer b) + length rest)
    = sym (length-append (bits_in_buffer a) rest) ∙ ap length t.2 ∙ length-append t.0 (bits_in_buffer b ++ rest) ∙ ap (λ (n : ℕ). length t.0 + n) (length-append (bits_in_buffer b) rest) in
    record { fewer = omega arith; skipped = ap (drop (bits - left)) t.2 ∙ drop_at t.0 (bits_in_buffer b ++ rest) (bits - left) (omega arith) }

pub read_consumes : {A : Type 0} {read : Bits → Reading Bool A} {Code : A → Bits → Type 0} (exact : Reads Bool A read Code Never) (bits left : ℕ) (x : A) (a b : BufferedBits) {old new : State Bool}
    → bits ≡ length (bits_in_buffer a) → left ≡ length (bits_in_buffer b) → GivesBuffered a b read x → IsBufferOf a old → Consumes old new (λ s m. skipped_bits_at (bits - left) s ≡ Done tt m)
    → Consumes old new (λ s m. read s ≡ Done x m)
read_consumes {read = read} exact bits left x a b {new = new} p q e here h =
    consumes_known _ h (λ t skip.
    let r = here t in
    let m : new.remaining ≡ bits_in_buffer b ++ r.0 = skipped_bits_is (bits - left) _ new.remaining skip ∙ ap (drop (bits - left)) r.1 ∙ (read_skipped exact bits left x a b r.0 p q (e r.0)).skipped in
    ap read r.1 ∙ e r.0 ∙ ap (λ (z : Bits). Done x z) (sym m))

-- buffered bits can be skipped
pub never_incomplete : (bits left : ℕ) (a : BufferedBits) {old new : State Bool} → bits ≡ length (bits_in_buffer a) → IsBufferOf a old → ReadFailedOrRemaining old new (λ s. skipped_bits_at (bits - left) s ≡ Incomplete) → ReadFailedOrRemaining old new (λ s. ⊥)
never_incomplete bits left a {old = old} p here h =
    failure_or_known _ h (λ t incomplete.
    let r = here t in
    let few = not_skipped_bits (bits - left) old.remaining incomplete in
    let len : length old.remaining ≡ length (bits_in_buffer a) + length r.0 = ap length r.1 ∙ length-append (bits_in_buffer a) r.0 in
    absurd (omega arith))
