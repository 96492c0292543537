-- Bytes in memory, read by a `Cursor`: it is known what remains, and no read of them fails. So of the two results that excuse a
-- call just `OutOfMemory` is left.
use Rattle.std.proofs.Common.{◌≡◌, inl, inr, ℕ, List, ◌++◌, drop, refl, ap, ◌∙◌}
use Rattle.std.specs.Prelude.{Result}
use Rattle.std.specs.declared.io.Cursor.{Cursor}
use Rattle.std.specs.Io.Cursor.{cursor_position, cursor_inner}
use Rattle.claxon_format.specs.Bits.{bits_of}
use Rattle.claxon_input.specs.Bitstream.{left_over}
use Rattle.claxon_input.specs.Cursor.{cursor_source}
use Rattle.claxon_input.specs.Gives.{ReadFailedIn}
use Rattle.claxon_input.specs.Promises.{Remains, IsExcused, IsOutOfMemory}
use Rattle.claxon_input.specs.State.{State, bits_in, bytes_in}
use Rattle.claxon_input.specs.declared.bits.Bitstream.{Bitstream}
use Rattle.claxon_input.specs.declared.error.Error.{Error}

-- ---- any source whose counts of failed reads stay the same

-- Where both counts are the same the source didn't fail.
pub never_failed : {X : Type 0} (a b : State X) → b.source.errors ≡ a.source.errors → b.source.empty_reads ≡ a.source.empty_reads → ReadFailedIn a b → ⊥
never_failed a b e k (inl h) = h e
never_failed a b e k (inr h) = h.0 k

-- So just `OutOfMemory` excuses the call.
pub just_out_of_memory : {X A : Type 0} (r : Result A Error) (a b : State X) → b.source.errors ≡ a.source.errors → b.source.empty_reads ≡ a.source.empty_reads → IsExcused r a b → IsOutOfMemory r
just_out_of_memory r a b e k (inl h) = h
just_out_of_memory r a b e k (inr h) = absurd (never_failed a b e k h.1)

-- ---- a cursor, where items are its bytes: of a slice `λ s. s.now`

module _ {T : Type 0} (items : T → List ℕ) where
  -- The bytes from the position on remain.
  pub cursor_remains : (c : Cursor T) → Remains (bytes_in (cursor_source items) c) (drop (cursor_position c) (items (cursor_inner c)))
  unfolding bytes_in
  cursor_remains c = record { known = tt; are = refl }

  -- Of a new cursor that is all of them.
  pub new_cursor_remains : (c : Cursor T) (inner : T) → cursor_position c ≡ 0 → cursor_inner c ≡ inner → Remains (bytes_in (cursor_source items) c) (items inner)
  new_cursor_remains c inner at is =
      let h = cursor_remains c in
      record { known = h.known; are = h.are ∙ ap (λ (n : ℕ). drop n (items (cursor_inner c))) at ∙ ap items is }

  -- Whatever calls were made in between, no read failed.
  pub cursor_never_fails : (a b : Cursor T) → ReadFailedIn (bytes_in (cursor_source items) a) (bytes_in (cursor_source items) b) → ⊥
  unfolding bytes_in
  cursor_never_fails a b f = never_failed (bytes_in (cursor_source items) a) (bytes_in (cursor_source items) b) refl refl f

  -- So just `OutOfMemory` excuses the calls.
  pub cursor_just_out_of_memory : {A : Type 0} (r : Result A Error) (a b : Cursor T) → IsExcused r (bytes_in (cursor_source items) a) (bytes_in (cursor_source items) b) → IsOutOfMemory r
  unfolding bytes_in
  cursor_just_out_of_memory r a b h = just_out_of_memory r (bytes_in (cursor_source items) a) (bytes_in (cursor_source items) b) refl refl h

  -- ---- bits over a cursor

  -- The bits left over, and then those of the bytes from the position on, remain.
  pub bits_remain : {g : _} (b : Bitstream (Cursor T) g) → Remains (bits_in (cursor_source items) b) (left_over b ++ bits_of (drop (cursor_position b.reader) (items (cursor_inner b.reader))))
  unfolding bits_in
  bits_remain b = record { known = tt; are = refl }

  -- No read of them fails.
  pub bits_never_fail : {g h : _} (a : Bitstream (Cursor T) g) (b : Bitstream (Cursor T) h) → ReadFailedIn (bits_in (cursor_source items) a) (bits_in (cursor_source items) b) → ⊥
  unfolding bits_in
  bits_never_fail a b f = never_failed (bits_in (cursor_source items) a) (bits_in (cursor_source items) b) refl refl f
