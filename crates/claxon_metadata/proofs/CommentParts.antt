-- The parts of a Vorbis comment block, one after another.
use Rattle.std.proofs.Common.{◌≡◌, ℕ, ◌-◌, ◌≤◌, false, ltb, List, refl}
use Rattle.std.specs.Prelude.{◌/◌}
use Rattle.std.proofs.lemmas.Bool.{le-ltb}
use Rattle.claxon_format.specs.Comments.{Entry}
use Rattle.claxon_format.specs.Metadata.{max_content_bytes}
use Rattle.claxon_format.specs.read.Reading.{Done}
use Rattle.claxon_format.specs.read.Comments.{comment_at, count_at, entries_at, vendor_at, vendor_length_at}
use Rattle.claxon_input.specs.Gives.{Consumes}
use Rattle.claxon_input.specs.State.{State}
use Rattle.claxon_input.proofs.ConsecutiveCalls.{consumes_then, StopsAs}

-- if one of them is invalid or incomplete, so is the block
module _ {n : ℕ} (s : List ℕ) (long : 8 ≤ n) (small : n ≤ max_content_bytes) where
  not_short : ltb n 8 ≡ false
  not_short = le-ltb _ _ long

  not_large : ltb max_content_bytes n ≡ false
  not_large = le-ltb _ _ small

  pub length_stops : StopsAs (vendor_length_at (n - 8) s) (comment_at n s)
  unfolding comment_at
  length_stops = record { fault = λ f rest e. rw (not_short, not_large, e) refl; incomplete = λ e. rw (not_short, not_large, e) refl }

  pub vendor_stops : (v : ℕ) (m : List ℕ) → vendor_length_at (n - 8) s ≡ Done v m → StopsAs (vendor_at v m) (comment_at n s)
  unfolding comment_at
  vendor_stops v m p = record { fault = λ f rest e. rw (not_short, not_large, p, e) refl; incomplete = λ e. rw (not_short, not_large, p, e) refl }

  pub count_stops : (v : ℕ) (vendor m k : List ℕ) → vendor_length_at (n - 8) s ≡ Done v m → vendor_at v m ≡ Done vendor k → StopsAs (count_at (n / 4) k) (comment_at n s)
  unfolding comment_at
  count_stops v vendor m k p q = record { fault = λ f rest e. rw (not_short, not_large, p, q, e) refl; incomplete = λ e. rw (not_short, not_large, p, q, e) refl }

  entries_stop : (v count : ℕ) (vendor m k j : List ℕ) → vendor_length_at (n - 8) s ≡ Done v m → vendor_at v m ≡ Done vendor k → count_at (n / 4) k ≡ Done count j
      → StopsAs (entries_at count (n - 8 - v) j) (comment_at n s)
  unfolding comment_at
  entries_stop v count vendor m k j p q r = record { fault = λ f rest e. rw (not_short, not_large, p, q, r, e) refl; incomplete = λ e. rw (not_short, not_large, p, q, r, e) refl }

pub entries_err : {n v count : ℕ} {vendor : List ℕ} {a b c d : State ℕ} → 8 ≤ n → n ≤ max_content_bytes
    → Consumes a b (λ s m. vendor_length_at (n - 8) s ≡ Done v m) → Consumes b c (λ s m. vendor_at v s ≡ Done vendor m) → Consumes c d (λ s m. count_at (n / 4) s ≡ Done count m)
    → Consumes a d (λ s m. StopsAs (entries_at count (n - 8 - v) m) (comment_at n s))
entries_err {n = n} {v = v} {count = count} {vendor = vendor} {a = a} {b = b} {c = c} {d = d} long small f g h =
    consumes_then _ f
    (consumes_then (λ m j. vendor_length_at (n - 8) a.remaining ≡ Done v m → StopsAs (entries_at count (n - 8 - v) j) (comment_at n a.remaining)) g h
    (λ q r p. entries_stop a.remaining long small v count vendor b.remaining c.remaining d.remaining p q r))
    (λ p k. k p)

comment_read : (n v count : ℕ) (vendor : List ℕ) (entries : List Entry) (s m k j rest : List ℕ) → 8 ≤ n → n ≤ max_content_bytes
    → vendor_length_at (n - 8) s ≡ Done v m → vendor_at v m ≡ Done vendor k → count_at (n / 4) k ≡ Done count j → entries_at count (n - 8 - v) j ≡ Done entries rest
    → comment_at n s ≡ Done (record { vendor = vendor; entries = entries }) rest
unfolding comment_at
comment_read n v count vendor entries s m k j rest long small p q r t =
    let a : ltb n 8 ≡ false = le-ltb _ _ long in
    let b : ltb max_content_bytes n ≡ false = le-ltb _ _ small in
    rw (a, b, p, q, r, t) refl

-- all of them
pub comment_whole : (n : ℕ) {v count : ℕ} {vendor : List ℕ} {entries : List Entry} {a b c d e : State ℕ} → 8 ≤ n → n ≤ max_content_bytes
    → Consumes a b (λ s m. vendor_length_at (n - 8) s ≡ Done v m) → Consumes b c (λ s m. vendor_at v s ≡ Done vendor m)
    → Consumes c d (λ s m. count_at (n / 4) s ≡ Done count m) → Consumes d e (λ s m. entries_at count (n - 8 - v) s ≡ Done entries m)
    → Consumes a e (λ s m. comment_at n s ≡ Done (record { vendor = vendor; entries = entries }) m)
comment_whole n {v = v} {count = count} {vendor = vendor} {entries = entries} {a = a} {b = b} {c = c} {d = d} {e = e} long small f g h i =
    consumes_then _ f
    (consumes_then (λ m rest. vendor_length_at (n - 8) a.remaining ≡ Done v m → comment_at n a.remaining ≡ Done (record { vendor = vendor; entries = entries }) rest) g
    (consumes_then (λ k rest. vendor_at v b.remaining ≡ Done vendor k → vendor_length_at (n - 8) a.remaining ≡ Done v b.remaining → comment_at n a.remaining ≡ Done (record { vendor = vendor; entries = entries }) rest) h i
    (λ r t q p. comment_read n v count vendor entries a.remaining b.remaining c.remaining d.remaining e.remaining long small p q r t))
    (λ q k p. k q p))
    (λ p k. k p)
