-- The calls of a reader of bytes give what the readers of fields give.
use Rattle.std.proofs.Common.{◌≡◌, ℕ, ◌+◌, ◌*◌, ◌^◌, ◌<◌, ◌≤◌, List, [], ◌∷◌, length, bit_or, ◌%◌, Option, None, Some, refl, arith}
use Rattle.std.specs.Prelude.{Result, IsErrAnd}
use Rattle.std.specs.declared.io.Error as io
use Rattle.std.proofs.lemmas.Grind.{common_steps}
use Rattle.std.proofs.lemmas.Result.{err_from_is_err_and}
use Rattle.claxon_format.specs.read.Bytes.{bytes_at, big_at, little_at, skipped_at}
use Rattle.claxon_format.specs.read.Reading.{Reading, Done, Incomplete, and_then}
use Rattle.claxon_input.specs.Bytes.{be_bytes, le_bytes}
use Rattle.claxon_input.specs.declared.error.Error.{Error}
use Rattle.claxon_input.specs.declared.error.Error.TheVariants.{IoError}
use Rattle.claxon_input.specs.Promises.{ConsumesAtMost}
use Rattle.claxon_input.specs.Source.{Source, MovesAtMost, Takes, ReadFailedOrEof, Skips}
use Rattle.claxon_input.specs.State.{State, bytes_in, remaining_as}
use Rattle.claxon_input.specs.Gives.{Consumes, ReadFailedOrRemaining, Gives}
use Rattle.claxon_input.proofs.BigEndian.{be_1, be_2, length-be_bytes, length-le_bytes, big_endian-bytes, little_endian-bytes}
use Rattle.claxon_input.proofs.Sources.{most_front}
use Rattle.claxon_input.proofs.States.{consumes_taken, failure_or_bytes}
use Rattle.claxon_input.proofs.ConsecutiveCalls.{consumes_map, consumes_none, gives_after, failure_or_after, failure_or_known, io_exit}

-- what is made of the bytes doesn't matter where the input ends
incomplete_after : {X Y : Type 0} {a b : State X} {read : List X → Reading X Y} {Z : Type 0} (whole : List X → Reading X Z) → ((s : List X) → read s ≡ Incomplete → whole s ≡ Incomplete) → ReadFailedOrRemaining a b (λ s. read s ≡ Incomplete) → ReadFailedOrRemaining a b (λ s. whole s ≡ Incomplete)
incomplete_after {a = a} whole f k = failure_or_after (λ s. whole s ≡ Incomplete) (consumes_none a (λ s m. s ≡ m) refl) k (λ p q. f a.remaining q)

most_known : (p q : Option (List ℕ)) (n : ℕ) → MovesAtMost p q n → length (remaining_as (λ all. all) p) ≤ n + length (remaining_as (λ all. all) q)
most_known None q n h = omega arith
most_known (Some all) None n h = absurd h
most_known (Some all) (Some left) n h = h

-- two bytes were consumed, so a number of them was; the lower one may be another term of the same value
pub takes_be_2 : {a b : Source ℕ} {k : ℕ} (x y : ℕ) → k ≡ y → x < 256 → y < 256 → Takes a b (x ∷ y ∷ []) → Takes a b (be_bytes 2 (bit_or (x * 256 % 65536) k))
takes_be_2 x y e h l t = rw (e, be_2 x y h l) t

module _ {R : Type 0} (source : R → Source ℕ) {a b : R} where
  pub consumes_big : (k n : ℕ) → n < 2 ^ (8 * k) → Takes (source a) (source b) (be_bytes k n) → Consumes (bytes_in source a) (bytes_in source b) (λ s m. big_at k s ≡ Done n m)
  unfolding bytes_in big_at
  consumes_big k n small h = consumes_map _ (consumes_taken k (length-be_bytes k n) h) (λ p. rw (p, big_endian-bytes k n small) refl)

  -- the number may be another term of the same value
  pub consumes_big_as : {m : ℕ} (k n : ℕ) → m ≡ n → n < 2 ^ (8 * k) → Takes (source a) (source b) (be_bytes k n) → Consumes (bytes_in source a) (bytes_in source b) (λ s r. big_at k s ≡ Done m r)
  consumes_big_as k n e small h = rw e (consumes_big k n small h)

  pub consumes_byte : (n : ℕ) → n < 256 → Takes (source a) (source b) (n ∷ []) → Consumes (bytes_in source a) (bytes_in source b) (λ s m. big_at 1 s ≡ Done n m)
  consumes_byte n small h = consumes_big 1 n small (rw (be_1 n small) h)

  pub failure_or_big : (k : ℕ) → ReadFailedOrEof (source a) (source b) k → ReadFailedOrRemaining (bytes_in source a) (bytes_in source b) (λ s. big_at k s ≡ Incomplete)
  unfolding bytes_in big_at
  failure_or_big k h = incomplete_after (big_at k) (λ s p. rw p refl) (failure_or_bytes k h)

  -- by a `?` on a call that reads the first number of several
  pub exit_big : {A Y : Type 0} (view : A → Y) (r : Result A Error) (k : ℕ) (next : ℕ → List ℕ → Reading ℕ Y) (cause : io.Error) → IsErrAnd r (λ y. y ≡ IoError cause) → ReadFailedOrEof (source a) (source b) k → Gives view r (and_then (big_at k) next) (bytes_in source a) (bytes_in source b)
  exit_big view r k next cause p h = io_exit view (err_from_is_err_and r p) (failure_or_known _ (failure_or_big k h) (λ t q. rw q refl))

  pub consumes_little : (n : ℕ) → n < 2 ^ 32 → Takes (source a) (source b) (le_bytes 4 n) → Consumes (bytes_in source a) (bytes_in source b) (λ s m. little_at 4 s ≡ Done n m)
  unfolding bytes_in little_at
  consumes_little n small h = consumes_map _ (consumes_taken 4 (length-le_bytes 4 n) h) (λ p. rw (p, little_endian-bytes n small) refl)

  pub failure_or_little : (k : ℕ) → ReadFailedOrEof (source a) (source b) k → ReadFailedOrRemaining (bytes_in source a) (bytes_in source b) (λ s. little_at k s ≡ Incomplete)
  unfolding bytes_in little_at
  failure_or_little k h = incomplete_after (little_at k) (λ s p. rw p refl) (failure_or_bytes k h)

  pub consumes_whole : (k : ℕ) (xs : List ℕ) → length xs ≡ k → Takes (source a) (source b) xs → Consumes (bytes_in source a) (bytes_in source b) (λ s m. bytes_at k s ≡ Done xs m)
  unfolding bytes_in
  consumes_whole k xs l h = consumes_taken k l h

  pub failure_or_whole : (k : ℕ) → ReadFailedOrEof (source a) (source b) k → ReadFailedOrRemaining (bytes_in source a) (bytes_in source b) (λ s. bytes_at k s ≡ Incomplete)
  unfolding bytes_in
  failure_or_whole k h = failure_or_bytes k h

  pub consumes_skipped : (k : ℕ) → Skips (source a) (source b) k → Consumes (bytes_in source a) (bytes_in source b) (λ s m. skipped_at k s ≡ Done tt m)
  unfolding bytes_in skipped_at
  consumes_skipped k (xs, l, h) = consumes_map _ (consumes_taken k l h) (λ p. rw p refl)

  pub failure_or_skipped : (k : ℕ) → ReadFailedOrEof (source a) (source b) k → ReadFailedOrRemaining (bytes_in source a) (bytes_in source b) (λ s. skipped_at k s ≡ Incomplete)
  unfolding bytes_in skipped_at
  failure_or_skipped k h = incomplete_after (skipped_at k) (λ s p. rw p refl) (failure_or_bytes k h)

  -- ---- how many bytes were consumed

  pub most_refused : (n : ℕ) → ReadFailedOrEof (source a) (source b) n → ConsumesAtMost n (bytes_in source a) (bytes_in source b)
  unfolding bytes_in
  most_refused n h = most_known (source a).remaining (source b).remaining n h.most

  pub most_taken : {xs : List ℕ} (n : ℕ) → length xs ≤ n → Takes (source a) (source b) xs → ConsumesAtMost n (bytes_in source a) (bytes_in source b)
  unfolding bytes_in
  most_taken {xs = xs} n l h = most_known (source a).remaining (source b).remaining n (most_front (source a).remaining (source b).remaining xs n h.moved.front l)

-- for a function that reads a number first, to be named in its `using`
pub ruleset first_number = (common_steps, consumes_byte, consumes_big, exit_big)

-- ---- numbers one after another

module _ {R : Type 0} (source : R → Source ℕ) {a b : R} where
  -- a number, and then what is read after it
  pub gives_then : {A Y : Type 0} (view : A → Y) (r : Result A Error) (c : State ℕ) (k n : ℕ) (next : ℕ → List ℕ → Reading ℕ Y) → Takes (source a) (source b) (be_bytes k n) → n < 2 ^ (8 * k) → Gives view r (next n) (bytes_in source b) c
      → Gives view r (and_then (big_at k) next) (bytes_in source a) c
  gives_then view r c k n next h small w = gives_after view r c (consumes_map _ (consumes_big source k n small h) (λ p. rw p refl)) w

  pub byte_gives_then : {A Y : Type 0} (view : A → Y) (r : Result A Error) (c : State ℕ) (n : ℕ) (next : ℕ → List ℕ → Reading ℕ Y) → Takes (source a) (source b) (n ∷ []) → n < 256 → Gives view r (next n) (bytes_in source b) c
      → Gives view r (and_then (big_at 1) next) (bytes_in source a) c
  byte_gives_then view r c n next h small w = gives_then view r c 1 n next (rw (be_1 n small) h) small w

  pub most_big : (k n : ℕ) → Takes (source a) (source b) (be_bytes k n) → ConsumesAtMost k (bytes_in source a) (bytes_in source b)
  most_big k n h = most_taken source k (omega (arith, length-be_bytes k n)) h

  pub most_byte : (n : ℕ) → Takes (source a) (source b) (n ∷ []) → ConsumesAtMost 1 (bytes_in source a) (bytes_in source b)
  most_byte n h = most_taken source 1 (omega arith) h

  -- little-endian numbers, and buffers
  pub exit_little : {A Y : Type 0} (view : A → Y) (r : Result A Error) (k : ℕ) (next : ℕ → List ℕ → Reading ℕ Y) (cause : io.Error) → IsErrAnd r (λ y. y ≡ IoError cause) → ReadFailedOrEof (source a) (source b) k → Gives view r (and_then (little_at k) next) (bytes_in source a) (bytes_in source b)
  exit_little view r k next cause p h = io_exit view (err_from_is_err_and r p) (failure_or_known _ (failure_or_little source k h) (λ t q. rw q refl))

  pub most_little : (n : ℕ) → Takes (source a) (source b) (le_bytes 4 n) → ConsumesAtMost 4 (bytes_in source a) (bytes_in source b)
  most_little n h = most_taken source 4 (omega (arith, length-le_bytes 4 n)) h

  pub most_whole : (xs : List ℕ) → Takes (source a) (source b) xs → ConsumesAtMost (length xs) (bytes_in source a) (bytes_in source b)
  most_whole xs h = most_taken source (length xs) (omega arith) h

-- for a function that reads numbers, or fills a buffer, to be named in its `using`
pub ruleset numbers = (common_steps, gives_then, byte_gives_then, exit_big, most_refused, most_big, most_byte)

pub ruleset little_numbers = (common_steps, consumes_little, exit_little, most_refused, most_little)

pub ruleset buffers = (common_steps, most_refused, most_whole)
