-- What the calls of a `ReadBytes` promise, one word each; `old` and `new` are the reader before
-- and after the call.
use Rattle.std.specs.Prelude.{◌≡◌, ℕ, List, [], ◌∷◌, Option, MatchOption, Result, IfOk, OnOk, OnErr}
use Rattle.claxon_input.specs.Bytes.{be_bytes, le_bytes}
use Rattle.claxon_input.specs.Source.{
  Source,
  ReadFailedOrEof,
  MeetsEof,
  Skips,
  ReadFailedOnce,
  Takes,
  TakesAllOrFails,
}

-- ---- a byte

module _ {R E : Type 0} (source : R → Source ℕ) (old : R) where
  -- Just the returned byte was consumed.
  abbrev pub ByteIsSound : Result ℕ E → R → Type 0
  ByteIsSound result new = IfOk result (λ byte. Takes (source old) (source new) (byte ∷ []))

  -- Just the returned byte was consumed; None says that none remained.
  abbrev pub ByteOrEofIsSound : Result (Option ℕ) E → R → Type 0
  ByteOrEofIsSound result new =
      IfOk result (λ found. MatchOption found (MeetsEof (source old) (source new) 1)
      (λ byte. Takes (source old) (source new) (byte ∷ [])))

-- Just the returned byte, which was buffered, was consumed; None consumed nothing.
abbrev pub BufferedByteIsSound : {R : Type 0} → (R → Source ℕ) → R → Option ℕ → R → Type 0
BufferedByteIsSound source old result new =
    MatchOption result (source new ≡ source old)
    (λ byte. Takes (source old) (source new) (byte ∷ []))

-- ---- a number of count bytes

module _ {R E : Type 0} (source : R → Source ℕ) (count : ℕ) (old : R) where
  -- Just the bytes of the returned number were consumed, the high one first.
  abbrev pub BigEndianIsSound : Result ℕ E → R → Type 0
  BigEndianIsSound result new =
      IfOk result (λ n. Takes (source old) (source new) (be_bytes count n))

  -- Just the bytes of the returned number were consumed, the low one first.
  abbrev pub LittleEndianIsSound : Result ℕ E → R → Type 0
  LittleEndianIsSound result new =
      IfOk result (λ n. Takes (source old) (source new) (le_bytes count n))

  -- Just the bytes of the returned number were consumed, the high one first; None says that fewer
  -- than count remained, and that these were consumed.
  abbrev pub BigEndianOrEofIsSound : Result (Option ℕ) E → R → Type 0
  BigEndianOrEofIsSound result new =
      IfOk result (λ found. MatchOption found (MeetsEof (source old) (source new) count)
      (λ n. Takes (source old) (source new) (be_bytes count n)))

-- ---- many bytes

module _ {R A E : Type 0} (source : R → Source ℕ) (old : R) (result : Result A E) (new : R) where
  -- After an Ok just these bytes were consumed.
  abbrev pub BytesAreSound : List ℕ → Type 0
  BytesAreSound bytes = OnOk result (Takes (source old) (source new) bytes)

  -- After an Err all that remained was consumed, or the source failed.
  abbrev pub ErrTakesAllOrFails : Type 0
  ErrTakesAllOrFails = OnErr result (TakesAllOrFails (source old) (source new))

-- Just as many bytes as the result says were consumed.
abbrev pub SomeAreSkipped : {R E : Type 0} → (R → Source ℕ) → R → Result ℕ E → R → Type 0
SomeAreSkipped source old result new = IfOk result (Skips (source old) (source new))

-- ---- a call that asks for count bytes

module _ {R A E : Type 0} (source : R → Source ℕ) (count : ℕ) (old : R) (result : Result A E)
    (new : R) where
  -- After an Ok just count bytes were consumed.
  abbrev pub BytesAreSkipped : Type 0
  BytesAreSkipped = OnOk result (Skips (source old) (source new) count)

  -- An Err says that fewer than count remained, or that one read of the source failed; at most
  -- count were consumed.
  abbrev pub BytesFailureOrEof : Type 0
  BytesFailureOrEof = OnErr result (ReadFailedOrEof (source old) (source new) count)

  -- An Err says that one read of the source failed; at most count were consumed.
  abbrev pub BytesFailure : Type 0
  BytesFailure = OnErr result (ReadFailedOnce (source old) (source new) count)
