-- Consecutive partitions read into one slice.
use Rattle.std.proofs.Common.{◌≡◌, ℕ, zero, suc, ◌+◌, ◌-◌, ◌*◌, ◌<◌, ◌≤◌, Bool, List, [], ◌++◌, length, take, drop, replicate, refl, sym, ap, subst, ◌∙◌, take-add, arith, ℤ}
use Rattle.std.proofs.lemmas.List.{append-nil, take_all, take_at, drop_at, length-take, length-take-le, length-drop}
use Rattle.std.proofs.lemmas.Slice.{take-put_mid}
use borrow.Rule.Slice.PartMut.{put_mid, same_len_mid}
use Rattle.claxon_format.specs.Bits.{Bits}
use Rattle.claxon_format.specs.read.Reading.{Reading, Done, each_at}
use Rattle.claxon_input.specs.declared.error.Error.{Error}
use Rattle.claxon_input.specs.State.{State}
use Rattle.claxon_input.specs.Gives.{Consumes, Stops}
use Rattle.claxon_input.proofs.FieldLoops.{front_both, front_none, with_front}
use Rattle.claxon_input.proofs.ConsecutiveCalls.{consumes_none, consumes_then, consumes_map, stops_after, StopsWith}
use Rattle.claxon_format.specs.read.Residual.{joined_at}
use Rattle.claxon_subframe.specs.Partitions.{lengths, total}
use Rattle.claxon_subframe.proofs.JoinedPartitions.{joined_first, joined_add}

left_next : (n each : ℕ) → lengths n each each ≡ replicate n each
left_next zero each = refl
left_next (suc n) each = refl

partitions_more : (r : ℕ → Bits → Reading Bool (List ℤ)) (front es : List ℤ) (partitions i len each : ℕ) (s m : Bits) (whole : Reading Bool (List ℤ)) → i < partitions → r len s ≡ Done es m
    → with_front front (joined_at r (lengths (partitions - i) len each) s) ≡ whole → with_front (front ++ es) (joined_at r (lengths (partitions - (i + 1)) each each) m) ≡ whole
partitions_more r front es partitions i len each s m whole lt e so_far =
    let k : partitions - i ≡ suc (partitions - (i + 1)) = omega arith in
    let one : with_front front (joined_at r (lengths (partitions - i) len each) s) ≡ with_front (front ++ es) (joined_at r (replicate (partitions - (i + 1)) each) m)
    = rw k (ap (with_front front) (joined_first r len (replicate (partitions - (i + 1)) each) s m es e) ∙ front_both front es (joined_at r (replicate (partitions - (i + 1)) each) m)) in
    rw left_next (sym one ∙ so_far)

partitions_done : (r : ℕ → Bits → Reading Bool (List ℤ)) (xs : List ℤ) (partitions i start len each : ℕ) (s : Bits) (whole : Reading Bool (List ℤ)) → partitions ≤ i → start + total (lengths (partitions - i) len each) ≡ length xs
    → with_front (take start xs) (joined_at r (lengths (partitions - i) len each) s) ≡ whole → whole ≡ Done xs s
unfolding each_at
partitions_done r xs partitions i start len each s whole le capacity so_far =
    let k : partitions - i ≡ 0 = omega arith in
    let full : length xs ≤ start = let q : start + total (lengths 0 len each) ≡ length xs = subst (λ (n : ℕ). start + total (lengths n len each) ≡ length xs) k capacity in omega arith in
    let one : with_front (take start xs) (joined_at r (lengths (partitions - i) len each) s) ≡ Done xs s = rw (k, take_all start xs full) (ap (λ (t : List ℤ). Done t s) (append-nil xs)) in
    sym so_far ∙ one

-- the next partition fits, and what is left after it
capacity : (partitions i start len each n : ℕ) → i < partitions → start + total (lengths (partitions - i) len each) ≡ n → (start + len ≤ n) × ((start + len) + total (lengths (partitions - (i + 1)) each each) ≡ n)
capacity partitions i start len each n lt e =
    let k : partitions - i ≡ suc (partitions - (i + 1)) = omega arith in
    let q : start + (len + total (replicate (partitions - (i + 1)) each)) ≡ n = subst (λ (m : ℕ). start + total (lengths m len each) ≡ n) k e in
    (omega arith, rw left_next (omega arith))

-- the range from a to a + k has k elements
pub length-range : (a k : ℕ) (xs : List ℤ) → a + k ≤ length xs → length (take (a + k - a) (drop a xs)) ≡ k
length-range a k xs le = omega (arith, length-take (a + k - a) (drop a xs), length-drop a xs)

pub front_replaced : (a k : ℕ) (xs ys : List ℤ) → a + k ≤ length xs → length ys ≡ length (take (a + k - a) (drop a xs)) → take (a + k) (put_mid a (a + k - a) xs ys) ≡ take a xs ++ ys
front_replaced a k xs ys le e = let p = length-range a k xs le in take-put_mid a (a + k - a) xs ys (a + k) (omega arith) (omega arith)

-- ---- the loop

-- i of the partitions were read into xs up to start; the next has len residual samples, and those after it `each`
pub record PartitionsSoFar (read : ℕ → Bits → Reading Bool (List ℤ)) (all : List ℕ) (partitions i start len each : ℕ) (xs : List ℤ) (old new : State Bool) : Type 0 where
  pub so_far : Consumes old new (λ s m. joined_at read all s ≡ with_front (take start xs) (joined_at read (lengths (partitions - i) len each) m))
  pub rest : start + total (lengths (partitions - i) len each) ≡ length xs

pub partitions_begin : {a : State Bool} (read : ℕ → Bits → Reading Bool (List ℤ)) (partitions first each : ℕ) (xs : List ℤ) → total (lengths partitions first each) ≡ length xs → PartitionsSoFar read (lengths partitions first each) partitions 0 0 first each xs a a
partitions_begin {a = a} read partitions first each xs fit =
    let all : partitions - 0 ≡ partitions = omega arith in
    let front : take 0 xs ≡ [] = take_at [] xs 0 refl in
    record { so_far = rw (all, front) (consumes_none a _ (sym (front_none (joined_at read (lengths partitions first each) a.remaining)))); rest = rw all (omega (arith, fit)) }

-- the next partition fits
pub partition_fits : {read : ℕ → Bits → Reading Bool (List ℤ)} {all : List ℕ} {partitions i start len each : ℕ} {xs : List ℤ} {a b : State Bool} → i < partitions → PartitionsSoFar read all partitions i start len each xs a b → start + len ≤ length xs
partition_fits {partitions = partitions} {i = i} {start = start} {len = len} {each = each} {xs = xs} lt h = (capacity partitions i start len each (length xs) lt h.rest).0

pub partitions_next : {read : ℕ → Bits → Reading Bool (List ℤ)} {all : List ℕ} {partitions i start len each : ℕ} {xs : List ℤ} (ys : List ℤ) {a b c : State Bool} → i < partitions → PartitionsSoFar read all partitions i start len each xs a b
    → length ys ≡ length (take (start + len - start) (drop start xs)) → Consumes b c (λ s m. read (length (take (start + len - start) (drop start xs))) s ≡ Done ys m)
    → PartitionsSoFar read all partitions (i + 1) (start + len) each each (put_mid start (start + len - start) xs ys) a c
partitions_next {read = read} {all = all} {partitions = partitions} {i = i} {start = start} {len = len} {each = each} {xs = xs} ys {a = a} {b = b} {c = c} lt h e k =
    let r = capacity partitions i start len each (length xs) lt h.rest in
    let n = length-range start len xs r.0 in
    let q : Consumes b c (λ s m. read len s ≡ Done ys m) = subst (λ (z : ℕ). Consumes b c (λ s m. read z s ≡ Done ys m)) n k in
    let front = front_replaced start len xs ys r.0 e in
    record {
      so_far = consumes_then _ h.so_far q (λ x y. rw front (sym (partitions_more read (take start xs) ys partitions i len each _ _ (joined_at read all a.remaining) lt y (sym x))));
      rest = rw (same_len_mid start (start + len - start) xs ys e) r.1;
    }

partitions_stop : (read : ℕ → Bits → Reading Bool (List ℤ)) (front : List ℤ) (partitions i len each : ℕ) → i < partitions → StopsWith (read len) (λ m. with_front front (joined_at read (lengths (partitions - i) len each) m))
unfolding each_at
partitions_stop read front partitions i len each lt =
    let k : partitions - i ≡ suc (partitions - (i + 1)) = omega arith in
    record { fault = λ s f rest e. rw (k, e) refl; incomplete = λ s e. rw (k, e) refl }

pub partitions_err : {read : ℕ → Bits → Reading Bool (List ℤ)} {all : List ℕ} {partitions i start len each : ℕ} {xs : List ℤ} {e : Error} {a b c : State Bool} → i < partitions → PartitionsSoFar read all partitions i start len each xs a b
    → Stops e (read (length (take (start + len - start) (drop start xs)))) b c → Stops e (joined_at read all) a c
partitions_err {read = read} {partitions = partitions} {i = i} {start = start} {len = len} {each = each} {xs = xs} {e = e} {b = b} {c = c} lt h k =
    let n = length-range start len xs (partition_fits lt h) in
    stops_after h.so_far (partitions_stop read (take start xs) partitions i len each lt) (subst (λ (z : ℕ). Stops e (read z) b c) n k)

pub partitions_end : {read : ℕ → Bits → Reading Bool (List ℤ)} {all : List ℕ} {partitions i start len each : ℕ} {xs : List ℤ} {a b : State Bool} → partitions ≤ i → PartitionsSoFar read all partitions i start len each xs a b → Consumes a b (λ s m. joined_at read all s ≡ Done xs m)
partitions_end {read = read} {all = all} {partitions = partitions} {i = i} {start = start} {len = len} {each = each} {xs = xs} {a = a} le h =
    consumes_map _ h.so_far (λ p. partitions_done read xs partitions i start len each _ (joined_at read all a.remaining) le h.rest (sym p))

-- ---- several partitions at once, after the first

total_is : (n each : ℕ) → total (replicate n each) ≡ n * each
total_is zero each = omega arith
total_is (suc n) each = grind (arith, total_is n each)

partitions_left : {read : ℕ → Bits → Reading Bool (List ℤ)} {all : List ℕ} {partitions i start each : ℕ} {xs : List ℤ} {a b : State Bool} → PartitionsSoFar read all partitions i start each each xs a b → start + (partitions - i) * each ≡ length xs
partitions_left {partitions = partitions} {i = i} {start = start} {each = each} {xs = xs} h =
    let e : start + total (replicate (partitions - i) each) ≡ length xs = subst (λ (l : List ℕ). start + total l ≡ length xs) (left_next (partitions - i) each) h.rest in
    omega (arith, total_is (partitions - i) each)

pub rest_fits : {read : ℕ → Bits → Reading Bool (List ℤ)} {all : List ℕ} {partitions i start each : ℕ} {xs : List ℤ} {a b : State Bool} → PartitionsSoFar read all partitions i start each each xs a b
    → (partitions - i) * each ≤ length (take (length xs - start) (drop start xs))
rest_fits {start = start} {xs = xs} h = omega (arith, partitions_left h, length-take (length xs - start) (drop start xs), length-drop start xs)

pub partitions_several : {read : ℕ → Bits → Reading Bool (List ℤ)} {all : List ℕ} {partitions i start each : ℕ} {xs : List ℤ} (more : ℕ) (ys : List ℤ) {a b c : State Bool} → i + more ≤ partitions → PartitionsSoFar read all partitions i start each each xs a b
    → length ys ≡ length (take (length xs - start) (drop start xs)) → Consumes b c (λ s m. joined_at read (replicate more each) s ≡ Done (take (more * each) ys) m)
    → PartitionsSoFar read all partitions (i + more) (start + more * each) each each (put_mid start (length xs - start) xs ys) a c
partitions_several {read = read} {all = all} {partitions = partitions} {i = i} {start = start} {each = each} {xs = xs} more ys {a = a} {b = b} {c = c} le h same k =
    let n = partitions - (i + more) in
    let left : partitions - i ≡ more + n = omega arith in
    let capacity = partitions_left h in
    let here : start ≤ length xs = omega (arith, capacity) in
    let whole : length (put_mid start (length xs - start) xs ys) ≡ length xs = same_len_mid start (length xs - start) xs ys same in
    let rest : length ys ≡ length xs - start = same ∙ omega (arith, length-take (length xs - start) (drop start xs), length-drop start xs) in
    let full : put_mid start (length xs - start) xs ys ≡ take start xs ++ ys = sym (take_all (start + (length xs - start)) (put_mid start (length xs - start) xs ys) (omega arith)) ∙ take-put_mid start (length xs - start) xs ys (start + (length xs - start)) (omega arith) (omega arith) in
    let front : length (take start xs) ≡ start = length-take-le start xs here in
    let taken : take (start + more * each) (put_mid start (length xs - start) xs ys) ≡ take start xs ++ take (more * each) ys
    = ap (take (start + more * each)) full ∙ take-add start (more * each) (take start xs ++ ys) ∙ (rw (take_at (take start xs) ys start front, drop_at (take start xs) ys start front) refl) in
    let times : (partitions - i) * each ≡ more * each + n * each = grind (arith, left) in
    record {
      so_far = consumes_then _ h.so_far k (λ p q.
          p ∙ ap (λ (l : List ℕ). with_front (take start xs) (joined_at read l b.remaining)) (left_next (partitions - i) each ∙ ap (λ (j : ℕ). replicate j each) left) ∙ ap (with_front (take start xs)) (joined_add read each more n b.remaining c.remaining (take (more * each) ys) q)
          ∙ front_both (take start xs) (take (more * each) ys) (joined_at read (replicate n each) c.remaining) ∙ ap (λ (l : List ℤ). with_front l (joined_at read (replicate n each) c.remaining)) (sym taken)
          ∙ ap (λ (l : List ℕ). with_front (take (start + more * each) (put_mid start (length xs - start) xs ys)) (joined_at read l c.remaining)) (sym (left_next n each)));
      rest = ap (λ (l : List ℕ). start + more * each + total l) (left_next n each) ∙ omega (arith, total_is n each, times, capacity, whole);
    }
