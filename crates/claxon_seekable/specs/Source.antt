-- What the calls of a source do, and what is known of it.
use Rattle.std.specs.Prelude.{
  ◌≡◌,
  ◌⊎◌,
  ℕ,
  zero,
  suc,
  ◌+◌,
  ◌-◌,
  ◌^◌,
  ◌<◌,
  ◌≤◌,
  Bool,
  false,
  ◌==◌,
  List,
  length,
  Option,
  None,
  Some,
  Result,
  Ok,
  Err,
}
use Rattle.std.specs.Io.KnownBytes.{IsAtEnd}
use Rattle.claxon.specs.Source.{IsOneMore}
use Rattle.claxon_seekable.specs.declared.source.CountingSource.{CountingSource}

-- the wrapped source
abbrev pub inner_source : {R : Type 0} → CountingSource R → R
inner_source s = s.inner

-- how many of its calls failed, modulo 2 ^ 64
abbrev pub failed_calls : {R : Type 0} → CountingSource R → ℕ
failed_calls s = s.failed

-- whether this is the position at which there was no byte
abbrev pub is_position : Option ℕ → ℕ → Bool
is_position None position = false
is_position (Some end) position = end == position

-- whether the last call read at this position, and there was no byte
abbrev pub ends_at : {R : Type 0} → CountingSource R → ℕ → Bool
ends_at s position = is_position s.ended_at position

-- The source is known to be at this position.
abbrev pub IsAt : {R : Type 0} → CountingSource R → ℕ → Type 0
IsAt s position = s.position ≡ Some position

-- that is forgotten
abbrev pub without_end : {R : Type 0} → CountingSource R → CountingSource R
without_end s = record {
  inner = s.inner;
  failed = s.failed;
  position = s.position;
  ended_at = None;
}

-- No call was made.
pub record IsNewSource {R : Type 0} (inner : R) (s : CountingSource R) : Type 0 where
  pub inner_is : inner_source s ≡ inner
  pub none_failed : failed_calls s ≡ 0
  pub no_end : s.ended_at ≡ None

-- There was no end.
abbrev pub GoesOn : {R : Type 0} → CountingSource R → Type 0
GoesOn s = s.ended_at ≡ None

-- One more call failed.
pub record CountsFailure {R : Type 0} (old new : CountingSource R) : Type 0 where
  pub one : IsOneMore (failed_calls old) (failed_calls new)
  pub inner_is : inner_source new ≡ inner_source old
  pub end_is : new.ended_at ≡ old.ended_at

-- One call failed at an Err, and none at an Ok.
abbrev pub CountsCall : {R A E : Type 0} → CountingSource R → Result A E → CountingSource R
    → Type 0
CountsCall old (Ok x) new = failed_calls new ≡ failed_calls old
CountsCall old (Err e) new = IsOneMore (failed_calls old) (failed_calls new)

-- A read at this position of no bytes is the end, and another one isn't.
abbrev pub ReadEnds : {R E : Type 0} → ℕ → Result ℕ E → CountingSource R → Type 0
ReadEnds position (Ok zero) new = new.ended_at ≡ Some position
ReadEnds position (Ok (suc n)) new = new.ended_at ≡ None
ReadEnds position (Err e) new = new.ended_at ≡ None

-- The source is after the bytes that were read at this position.
abbrev pub ReadMoves : {R E : Type 0} → ℕ → Result ℕ E → CountingSource R → Type 0
ReadMoves position (Ok count) new = IsAt new (position + count)
ReadMoves position (Err e) new = Unit {0}

-- So many bytes are in the buffer, and the position after them has 64 bits.
abbrev pub ReadFits : ℕ → List ℕ → ℕ → Type 0
ReadFits position buffer count = (count ≤ length buffer) × (position + count < 2 ^ 64 - 1)

-- Where there was no byte nothing is left in the source, if it is known what is, or positions end.
abbrev pub EndIsTold : {R : Type 0} → (R → Option (List ℕ)) → CountingSource R → Type 0
EndIsTold remaining s = (position : ℕ) → s.ended_at ≡ Some position
    → IsAtEnd (remaining (inner_source s)) ⊎ (2 ^ 64 - 2 ≤ position)
