-- What clauses say of a `CountingReader`.
use Rattle.std.specs.Io.KnownBytes.{ReadConsumes}
use Rattle.std.specs.Prelude.{◌≡◌, ℕ, zero, suc, List, MatchResult, Option, Result}
use Rattle.claxon_input.specs.Source.{IsOneMore}
use Rattle.claxon_input.specs.declared.input.counting_reader.CountingReader.{CountingReader}

-- the wrapped reader
abbrev pub counted_inner : {R : Type 0} → CountingReader R → R
counted_inner r = r.inner

-- how many of its reads failed, modulo 2^64, as the next one
abbrev pub errors_of : {R : Type 0} → CountingReader R → ℕ
errors_of r = r.errors

-- how many of its reads gave no bytes
abbrev pub empty_reads_of : {R : Type 0} → CountingReader R → ℕ
empty_reads_of r = r.empty_reads

-- Both counts are 0.
abbrev pub NothingIsCounted : {R : Type 0} → CountingReader R → Type 0
NothingIsCounted r = (errors_of r ≡ 0) × (empty_reads_of r ≡ 0)

-- A read that gave n bytes counts as empty exactly if n is 0.
abbrev pub CountsBytes : {R : Type 0} → CountingReader R → ℕ → CountingReader R → Type 0
CountsBytes old zero new = IsOneMore (empty_reads_of old) (empty_reads_of new)
CountsBytes old (suc n) new = empty_reads_of new ≡ empty_reads_of old

-- An Err is one more failed read, and an Ok of no bytes is one more empty read.
abbrev pub CountsRead : {R E : Type 0} → CountingReader R → Result ℕ E → CountingReader R → Type 0
CountsRead old result new =
    MatchResult result
    (λ n. (errors_of new ≡ errors_of old) × CountsBytes old n new)
    (λ _. IsOneMore (errors_of old) (errors_of new) × (empty_reads_of new ≡ empty_reads_of old))

-- The bytes that were read into the buffer, and these alone, were consumed of the wrapped reader.
abbrev pub ReadConsumesInner : {R E : Type 0} → (R → Option (List ℕ)) → CountingReader R
    → Result ℕ E → CountingReader R → List ℕ → Type 0
ReadConsumesInner remaining old result new buffer =
    ReadConsumes (remaining (counted_inner old)) (remaining (counted_inner new)) result buffer
