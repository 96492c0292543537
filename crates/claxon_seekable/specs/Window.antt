-- What a window says of the bytes that it holds, and of the calls that failed.
use Rattle.std.specs.Prelude.{
  ◌≡◌,
  ◌⊎◌,
  ℕ,
  ◌+◌,
  ◌-◌,
  ◌^◌,
  ◌≤◌,
  min,
  Bool,
  true,
  List,
  [],
  ◌++◌,
  drop,
  length,
  Option,
  Result,
  Ok,
  Err,
  vec_capacity,
  vec_len,
}
use Rattle.claxon.specs.Error.{IsIo}
use Rattle.claxon.specs.Errors.{Error}
use Rattle.claxon.specs.Errors.TheVariants.{OutOfMemory}
use Rattle.claxon.specs.Source.{IsOneMore}
use Rattle.claxon_stream.specs.Held.{held_from}
use Rattle.claxon_seekable.specs.Memory.{refused_requests}
use Rattle.claxon_seekable.specs.Source.{
  EndIsTold,
  IsAt,
  ends_at,
  failed_calls,
  inner_source,
  without_end,
}
use Rattle.claxon_seekable.specs.declared.window.Window.{Window}

-- the bytes that are held
abbrev pub held : {R : Type 0} → Window R → List ℕ
held w = drop w.taken w.bytes.items

-- the position in the source of the first of them
abbrev pub place : {R : Type 0} → Window R → ℕ
place w = w.position

-- the wrapped source
abbrev pub window_source : {R : Type 0} → Window R → R
window_source w = inner_source w.source

-- whether no byte stood after them when that was last asked
abbrev pub has_end : {R : Type 0} → Window R → Bool
has_end w = ends_at w.source (place w + length (held w))

-- how many calls of the source failed
abbrev pub window_failures : {R : Type 0} → Window R → ℕ
window_failures w = failed_calls w.source

-- how many requests for memory were refused
abbrev pub window_refusals : {R : Type 0} → Window R → ℕ
window_refusals w = refused_requests w.memory

-- More bytes may have been read after those that were there.
pub record ReadsOn (old new : List ℕ) : Type 0 where
  pub more : List ℕ
  pub is : new ≡ old ++ more

-- Nothing is held.
pub record IsNewWindow {R : Type 0} (source : R) (position : ℕ) (w : Window R) : Type 0 where
  pub source_is : window_source w ≡ source
  pub place_is : place w ≡ position
  pub none_held : held w ≡ []

-- The counts stay.
abbrev pub KeepsCounts : {R : Type 0} → Window R → Window R → Type 0
KeepsCounts old new =
    (window_failures new ≡ window_failures old) × (window_refusals new ≡ window_refusals old)

-- One call of the source failed, or one request for memory was refused, as the error says.
abbrev pub IsFailure : {R : Type 0} → Window R → Error → Window R → Type 0
IsFailure old e new =
    (IsIo e × IsOneMore (window_failures old) (window_failures new)
    × (window_refusals new ≡ window_refusals old))
    ⊎ ((e ≡ OutOfMemory) × (window_failures new ≡ window_failures old)
    × IsOneMore (window_refusals old) (window_refusals new))

-- So it is at an Err, and at an Ok no call failed.
abbrev pub CallIsCounted : {R A : Type 0} → Window R → Result A Error → Window R → Type 0
CallIsCounted old (Ok x) new = KeepsCounts old new
CallIsCounted old (Err e) new = IsFailure old e new

-- What is held stays.
abbrev pub KeepsHeld : {R : Type 0} → Window R → Window R → Type 0
KeepsHeld old new = (held new ≡ held old) × (place new ≡ place old)

-- The source was not called.
abbrev pub SameCalls : {R : Type 0} → Window R → Window R → Type 0
SameCalls old new = (new.source ≡ old.source) × KeepsCounts old new

-- Of what is held the bytes from the position on are kept.
pub record MovesTo {R : Type 0} (position : ℕ) (old new : Window R) : Type 0 where
  pub place_is : place new ≡ position
  pub held_is : held new ≡ held_from (place old) position (held old)
  pub same : SameCalls old new

-- It is forgotten that there was an end.
pub record ForgetsEnd {R : Type 0} (old new : Window R) : Type 0 where
  pub keeps : KeepsHeld old new
  pub counts : KeepsCounts old new
  pub source_is : new.source ≡ without_end old.source

-- So many bytes are held, or the source ends after those that are.
abbrev pub ReadsMore : {R : Type 0} → ℕ → Window R → Type 0
ReadsMore wanted w = (wanted ≤ length (held w)) ⊎ (has_end w ≡ true)

-- The source is after the bytes that are held: each of them was read at its position.
abbrev pub IsAfterHeld : {R : Type 0} → Window R → Type 0
IsAfterHeld w = IsAt w.source (place w + length (held w))

-- So it is if more bytes are held than before.
abbrev pub ReadsInTurn : {R : Type 0} → Window R → Window R → Type 0
ReadsInTurn old new = (held new ≡ held old) ⊎ IsAfterHeld new

-- Of what was held the bytes from the position on are kept, and more may be read after them. No
-- position is 2 ^ 64 - 1 or later.
pub record ReadsFrom {R : Type 0} (position : ℕ) (old new : Window R) : Type 0 where
  pub place_is : place new ≡ min position (2 ^ 64 - 2)
  pub reads_on : ReadsOn (held_from (place old) (place new) (held old)) (held new)

-- No byte is passed, and there is room for a read.
abbrev pub HasRoom : {R : Type 0} → Window R → Type 0
HasRoom w = (w.taken ≡ 0) × (vec_len w.bytes + 32768 ≤ vec_capacity w.bytes)

-- Where the source was called, and there was no byte, nothing is left in it.
module _ {R : Type 0} (remaining : R → Option (List ℕ)) (old new : Window R) where
  abbrev pub WindowEndIsTold : Type 0
  WindowEndIsTold = (new.source ≡ old.source) ⊎ EndIsTold remaining new.source

  abbrev pub KeepsEndTold : Type 0
  KeepsEndTold = EndIsTold remaining old.source → EndIsTold remaining new.source
