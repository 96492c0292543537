use Rattle.std.proofs.Common.{◌≡◌, ◌∙◌, ℕ, ◌/◌, ◌%◌, Bool, true, false, eqb, ltb, refl, sym, arith, bit_and, rules}
use Rattle.std.proofs.lemmas.Bool.{lt-ltb, le-ltb}
use Rattle.std.proofs.lemmas.Bool.Decides.{nat_tests}
use Rattle.std.proofs.lemmas.Nat.{and_mask}
use Rattle.std.proofs.lemmas.Result.{err_from_is_err_and}
use Rattle.claxon_format.specs.Fault.{ChannelsReserved, BitDepthReserved, SecondReservedBit, fault_text}
use Rattle.claxon_format.specs.Header.{bit_depth_reserved}
use Rattle.claxon_format.specs.read.Reading.{Done, bind, done, test}
use Rattle.claxon_format.specs.read.Bytes.{big_at}
use Rattle.claxon_format.specs.read.Header.{channels_at}
use Rattle.claxon_input.specs.State.{State}
use Rattle.claxon_input.specs.Gives.{Consumes}
use Rattle.claxon_input.proofs.ByteFields.{consumes_byte, exit_big}
use Rattle.claxon_input.proofs.ConsecutiveCalls.{exit, consumes_none, consumes_map}
use Rattle.claxon_input.proofs.Faults.{stops_fault}
use Rattle.claxon_frame.specs.FrameHeader.{channel_code}
use Rattle.claxon_subframe.proofs.ConsecutiveFields.{then_consumes, then_stops}
use Rattle.claxon_frame.proofs.frame.header.read_channels_and_bit_depth.Goals as goal
use Rattle.claxon_frame.proofs.frame.header.read_channels_and_bit_depth.Goals.{then-n-lt8, else-n-lt8+in-8, else-n-lt8+in-9, else-n-lt8+in-10}

-- the checks of the byte that holds both codes
checked_codes : (c : ℕ) {a b : State ℕ} → Consumes a b (λ s m. big_at 1 s ≡ Done c m)
    → Consumes a b (λ s m. channels_at big_at s ≡ test (ltb 10 (c / 16)) ChannelsReserved (test (bit_depth_reserved (c / 2 % 8)) BitDepthReserved (test (eqb (c % 2) 1) SecondReservedBit (done (c / 16, c / 2 % 8)))) m)
unfolding channels_at
checked_codes c {a = a} h = then_consumes _ (consumes_none a _ refl) h

pub returns-in_err-codes-clause-gives : goal.returns-in_err-codes-clause-gives
unfolding channels_at
returns-in_err-codes-clause-gives g c = exit_big g.R.ReadBytes.source _ _ _ _ _ c.from_residual.ensures.1 c.in_err-codes.ensures.failure_or_eof

pub returns-in_default-2-clause-gives : goal.returns-in_default-2-clause-gives
unfolding fault_text
returns-in_default-2-clause-gives g c =
    let reserved : ltb 10 (c.in_ok-codes.codes / 16) ≡ true = lt-ltb _ _ (omega arith) in
    stops_fault ChannelsReserved refl refl (refl, refl) (consumes_map _ (checked_codes c.in_ok-codes.codes (consumes_byte g.R.ReadBytes.source c.in_ok-codes.codes (search rules) c.in_ok-codes.ensures.is_sound)) (λ p. rw (p, reserved) refl))

-- the bit depth code follows the channel code
bit_depth_next : (c code : ℕ) {a b : State ℕ} → code ≡ c / 2 % 8 → ltb 10 (c / 16) ≡ false → Consumes a b (λ s m. big_at 1 s ≡ Done c m)
    → Consumes a b (λ s m. channels_at big_at s ≡ bind (test (bit_depth_reserved code) BitDepthReserved (done code) m) (λ w. test {A = ℕ × ℕ} (eqb (c % 2) 1) SecondReservedBit (done (c / 16, w))))
bit_depth_next c code {b = b} low not_reserved h = consumes_map _ (checked_codes c h) (λ p. rw (p, not_reserved, ← low) (split (bit_depth_reserved code)))
  where
    split : (r : Bool) → test r BitDepthReserved (test {A = ℕ × ℕ} (eqb (c % 2) 1) SecondReservedBit (done (c / 16, code))) b.remaining ≡ bind (test r BitDepthReserved (done code) b.remaining) (λ w. test {A = ℕ × ℕ} (eqb (c % 2) 1) SecondReservedBit (done (c / 16, w)))
    split true = refl
    split false = refl

pub returns-in_err-bit_depth-clause-gives : goal.returns-in_err-bit_depth-clause-gives
returns-in_err-bit_depth-clause-gives g c =
    let not_reserved : ltb 10 (c.in_ok-codes.codes / 16) ≡ false = elim c.if-n-lt8.branch [
      | then-n-lt8 w ↦ le-ltb _ _ (omega arith)
      | else-n-lt8+in-8 w ↦ le-ltb _ _ (omega arith)
      | else-n-lt8+in-9 w ↦ le-ltb _ _ (omega arith)
      | else-n-lt8+in-10 w ↦ le-ltb _ _ (omega arith)
    ] in
    let low : bit_and (c.in_ok-codes.codes / 2) 7 ≡ c.in_ok-codes.codes / 2 % 8 = and_mask (c.in_ok-codes.codes / 2) 3 in
    exit _ (err_from_is_err_and c.from_residual-in_err-bit_depth.result c.from_residual-in_err-bit_depth.ensures.1)
    (then_stops _ (bit_depth_next c.in_ok-codes.codes _ low not_reserved (consumes_byte g.R.ReadBytes.source c.in_ok-codes.codes (search rules) c.in_ok-codes.ensures.is_sound)) (c.in_err-bit_depth.ensures.gives _))

pub returns-then-codes-eq1-clause-gives : goal.returns-then-codes-eq1-clause-gives
unfolding fault_text
returns-then-codes-eq1-clause-gives g c =
    let not_reserved : ltb 10 (c.in_ok-codes.codes / 16) ≡ false = elim c.if-n-lt8.branch [
      | then-n-lt8 w ↦ le-ltb _ _ (omega arith)
      | else-n-lt8+in-8 w ↦ le-ltb _ _ (omega arith)
      | else-n-lt8+in-9 w ↦ le-ltb _ _ (omega arith)
      | else-n-lt8+in-10 w ↦ le-ltb _ _ (omega arith)
    ] in
    let low : bit_and (c.in_ok-codes.codes / 2) 7 ≡ c.in_ok-codes.codes / 2 % 8 = and_mask (c.in_ok-codes.codes / 2) 3 in
    let odd : c.in_ok-codes.codes % 2 ≡ 1 = sym (and_mask c.in_ok-codes.codes 1) ∙ c.if-codes-eq1.true in
    stops_fault SecondReservedBit refl refl (refl, refl) (consumes_map _ (then_consumes _ (bit_depth_next c.in_ok-codes.codes _ low not_reserved (consumes_byte g.R.ReadBytes.source c.in_ok-codes.codes (search rules) c.in_ok-codes.ensures.is_sound)) (c.in_ok-bit_depth.ensures.gives _)) (λ p. rw (p, odd) refl))

pub returns-clause-gives : goal.returns-clause-gives
returns-clause-gives g c =
    let channels : (ltb 10 (c.in_ok-codes.codes / 16) ≡ false) × (c.in_ok-codes.codes / 16 ≡ channel_code c.if-n-lt8.channel_assignment) = elim c.if-n-lt8.branch [
      | then-n-lt8 w ↦ (le-ltb _ _ (omega arith), rw w.channel_assignment-is (omega arith))
      | else-n-lt8+in-8 w ↦ (le-ltb _ _ (omega arith), rw w.channel_assignment-is (omega arith))
      | else-n-lt8+in-9 w ↦ (le-ltb _ _ (omega arith), rw w.channel_assignment-is (omega arith))
      | else-n-lt8+in-10 w ↦ (le-ltb _ _ (omega arith), rw w.channel_assignment-is (omega arith))
    ] in
    let low : bit_and (c.in_ok-codes.codes / 2) 7 ≡ c.in_ok-codes.codes / 2 % 8 = and_mask (c.in_ok-codes.codes / 2) 3 in
    let even : eqb (c.in_ok-codes.codes % 2) 1 ≡ false = (let k : bit_and c.in_ok-codes.codes 1 ≡ c.in_ok-codes.codes % 2 = and_mask c.in_ok-codes.codes 1 in grind (arith, nat_tests)) in
    consumes_map _ (then_consumes _ (bit_depth_next c.in_ok-codes.codes _ low channels.0 (consumes_byte g.R.ReadBytes.source c.in_ok-codes.codes (search rules) c.in_ok-codes.ensures.is_sound)) (c.in_ok-bit_depth.ensures.gives _)) (λ p. rw (p, even, channels.1) refl)
