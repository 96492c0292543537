-- What clauses say of a `BufferedReader`.
use Rattle.std.specs.Prelude.{◌≡◌, ◌≢◌, ℕ, List, [], slice_range, IfOk, OnErr, Result}
use Rattle.std.specs.Io.KnownBytes.{prepend_known}
use Rattle.std.specs.declared.option.Option.{Option}
use Rattle.claxon_input.specs.declared.error.Error.{Error}
use Rattle.claxon_input.specs.CountingReader.{counted_inner, empty_reads_of, errors_of}
use Rattle.claxon_input.specs.Source.{Source, MeetsEof, Skips, ReadFailedOnce, Takes}
use Rattle.claxon_input.specs.declared.input.BufferedReader.{BufferedReader}

-- the buffered bytes that were not consumed yet
abbrev pub bytes_in_buffer : {R A : Type 0} → BufferedReader R A → List ℕ
bytes_in_buffer r = slice_range r.buf.items r.pos r.num_valid

-- the buffered bytes, and then those that remain of the inner reader
abbrev pub buffered_source : {R A : Type 0} → (R → Option (List ℕ)) → BufferedReader R A → Source ℕ
buffered_source remaining r = record {
  remaining = prepend_known (bytes_in_buffer r) (remaining (counted_inner r.inner));
  errors = errors_of r.inner;
  empty_reads = empty_reads_of r.inner;
  loans = [];
  values = λ _. [];
}

-- the wrapped reader
abbrev pub buffered_inner : {R A : Type 0} → BufferedReader R A → R
buffered_inner r = counted_inner r.inner

-- ---- what the calls promise; `old` and `new` are the reader before and after the call

module _ {R A : Type 0} (remaining : R → Option (List ℕ)) (old new : BufferedReader R A) where
  -- just xs was consumed
  abbrev pub BufferTakes : List ℕ → Type 0
  BufferTakes xs = Takes (buffered_source remaining old) (buffered_source remaining new) xs

  -- just count bytes were consumed
  abbrev pub BufferSkips : ℕ → Type 0
  BufferSkips count = Skips (buffered_source remaining old) (buffered_source remaining new) count

  -- A byte or more is buffered, and nothing was consumed.
  abbrev pub IsFilled : Type 0
  IsFilled = (bytes_in_buffer new ≢ []) × BufferTakes []

  -- Nothing is buffered, and nothing remained.
  abbrev pub IsAtEof : Type 0
  IsAtEof =
      (bytes_in_buffer new ≡ [])
      × MeetsEof (buffered_source remaining old) (buffered_source remaining new) 1

  -- Nothing is buffered, one read of the source failed, and nothing was consumed.
  abbrev pub FillFailed : Type 0
  FillFailed =
      (bytes_in_buffer new ≡ [])
      × ReadFailedOnce (buffered_source remaining old) (buffered_source remaining new) 0

-- Nothing was read from the inner reader, and no read failed.
abbrev pub NothingWasRead : {R A : Type 0} → (R → Option (List ℕ)) → R
    → Result (BufferedReader R A) Error → Type 0
NothingWasRead remaining inner result =
    IfOk result (λ r. buffered_source remaining r ≡ record {
      remaining = prepend_known [] (remaining inner);
      errors = 0;
      empty_reads = 0;
      loans = [];
      values = λ _. [];
    })

-- After an Err nothing is buffered, so that the next call asks the inner reader again.
abbrev pub IsEmptyAfterErr : {T E R A : Type 0} → Result T E → BufferedReader R A → Type 0
IsEmptyAfterErr result new = OnErr result (bytes_in_buffer new ≡ [])
