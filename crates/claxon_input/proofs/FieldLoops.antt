-- Loops that read fields one after another.
use Rattle.std.proofs.Common.{◌≡◌, ℕ, zero, suc, ◌+◌, ◌-◌, ◌<◌, ◌≤◌, List, [], ◌∷◌, ◌++◌, length, take, set, refl, sym, ap, ◌∙◌, append_assoc, arith, length-append, take-add}
use Rattle.std.proofs.lemmas.List.{append-nil, take_more_set, length-set, take_all, take_at, drop_at, length-take-le}
use Rattle.claxon_format.specs.read.Reading.{Reading, Done, Faulty, Incomplete, bind, times_at, each_at}
use Rattle.claxon_format.proofs.Laws.{bind_done}
use Rattle.claxon_input.specs.declared.error.Error.{Error}
use Rattle.claxon_input.specs.State.{State}
use Rattle.claxon_input.specs.Gives.{Consumes, Stops}
use Rattle.claxon_input.proofs.ConsecutiveCalls.{consumes_then, consumes_map, stops_after, StopsWith}

-- what was read before, and what is still read
abbrev pub with_front : {X A : Type 0} → List A → Reading X (List A) → Reading X (List A)
with_front front (Done others rest) = Done (front ++ others) rest
with_front front (Faulty f rest) = Faulty f rest
with_front front Incomplete = Incomplete

pub front_none : {X A : Type 0} (x : Reading X (List A)) → with_front [] x ≡ x
front_none (Done xs rest) = refl
front_none (Faulty f rest) = refl
front_none Incomplete = refl

pub regroup : {X A : Type 0} (front : List A) (a : A) (x : Reading X (List A)) → with_front front (bind x (λ others rest. Done (a ∷ others) rest)) ≡ with_front (front ++ a ∷ []) x
regroup front a (Done others rest) = ap (λ (t : List _). Done t rest) (sym (append_assoc front (a ∷ []) others))
regroup front a (Faulty f rest) = refl
regroup front a Incomplete = refl

-- one more is read, and put at i
times_more : {X A : Type 0} (r : List X → Reading X A) (xs : List A) (i : ℕ) (a : A) (s m : List X) (total : Reading X (List A)) → i < length xs → r s ≡ Done a m
    → with_front (take i xs) (times_at (length xs - i) r s) ≡ total → with_front (take (i + 1) (set xs i a)) (times_at (length (set xs i a) - (i + 1)) r m) ≡ total
unfolding times_at each_at
times_more r xs i a s m total lt e so_far =
    let k : length xs - i ≡ suc (length xs - (i + 1)) = omega arith in
    let one : with_front (take i xs) (times_at (length xs - i) r s) ≡ with_front (take i xs ++ a ∷ []) (times_at (length xs - (i + 1)) r m) = rw (k, e) (regroup (take i xs) a (times_at (length xs - (i + 1)) r m)) in
    rw (take_more_set xs i a lt, length-set xs i a) (sym one ∙ so_far)

times_done : {X A : Type 0} (r : List X → Reading X A) (xs : List A) (i : ℕ) (s : List X) (total : Reading X (List A)) → length xs ≤ i
    → with_front (take i xs) (times_at (length xs - i) r s) ≡ total → total ≡ Done xs s
unfolding times_at each_at
times_done r xs i s total le so_far =
    let k : length xs - i ≡ 0 = omega arith in
    let one : with_front (take i xs) (times_at (length xs - i) r s) ≡ Done xs s = rw (k, take_all i xs le) (ap (λ (t : List _). Done t s) (append-nil xs)) in
    sym so_far ∙ one

-- i fields of n were read and put at the front of xs
pub record TimesSoFar {X A : Type 0} (read : List X → Reading X A) (n : ℕ) (xs : List A) (i : ℕ) (old new : State X) : Type 0 where
  pub so_far : Consumes old new (λ s m. times_at n read s ≡ with_front (take i xs) (times_at (length xs - i) read m))

pub times_next : {X A : Type 0} {read : List X → Reading X A} {n : ℕ} {xs : List A} {i : ℕ} (x : A) {a b c : State X} → i < length xs → TimesSoFar read n xs i a b → Consumes b c (λ s m. read s ≡ Done x m) → TimesSoFar read n (set xs i x) (i + 1) a c
times_next {read = read} {n = n} {xs = xs} {i = i} x {a = a} lt h k = record { so_far = consumes_then _ h.so_far k (λ p q. sym (times_more read xs i x _ _ (times_at n read a.remaining) lt q (sym p))) }

pub times_end : {X A : Type 0} {read : List X → Reading X A} {n : ℕ} {xs : List A} {i : ℕ} {a b : State X} → length xs ≤ i → TimesSoFar read n xs i a b → Consumes a b (λ s m. times_at n read s ≡ Done xs m)
times_end {read = read} {n = n} {xs = xs} {i = i} {a = a} le h = consumes_map _ h.so_far (λ p. times_done read xs i _ (times_at n read a.remaining) le (sym p))

times_stop : {X A : Type 0} (read : List X → Reading X A) (xs : List A) (i : ℕ) → i < length xs → StopsWith read (λ m. with_front (take i xs) (times_at (length xs - i) read m))
unfolding times_at each_at
times_stop read xs i lt =
    let k : length xs - i ≡ suc (length xs - (i + 1)) = omega arith in
    record { fault = λ s f rest e. rw (k, e) refl; incomplete = λ s e. rw (k, e) refl }

pub times_err : {X A : Type 0} {read : List X → Reading X A} {n : ℕ} {xs : List A} {i : ℕ} {e : Error} {a b c : State X} → i < length xs → TimesSoFar read n xs i a b → Stops e read b c → Stops e (times_at n read) a c
times_err {read = read} {xs = xs} {i = i} lt h k = stops_after h.so_far (times_stop read xs i lt) k

-- ---- several at once

with_more : {X A : Type 0} (a : A) (others : List A) (x : Reading X (List A)) → bind (with_front others x) (λ o rest. Done (a ∷ o) rest) ≡ with_front (a ∷ others) x
with_more a others (Done xs rest) = refl
with_more a others (Faulty f rest) = refl
with_more a others Incomplete = refl

-- i fields were read, and then n more are
pub times_add : {X A : Type 0} (r : List X → Reading X A) (i n : ℕ) (s m : List X) (xs : List A) → times_at i r s ≡ Done xs m → times_at (i + n) r s ≡ with_front xs (times_at n r m)
unfolding times_at each_at
times_add r zero n s m xs e =
    let k : 0 + n ≡ n = omega arith in
    let p : [] ≡ xs = cc in
    let q : s ≡ m = cc in
    rw (k, ← p, ← q) (sym (front_none (times_at n r s)))
times_add r (suc i) n s m xs e =
    let k : suc i + n ≡ suc (i + n) = omega arith in
    let p = bind_done (r s) _ xs m e in
    let q = bind_done (times_at i r p.1) _ xs m p.3 in
    let x : p.0 ∷ q.0 ≡ xs = (let z = q.3 in cc) in
    let y : q.1 ≡ m = (let z = q.3 in cc) in
    let one : times_at (suc (i + n)) r s ≡ bind (times_at (i + n) r p.1) (λ o rest. Done (p.0 ∷ o) rest) = ap (λ (t : Reading _ _). bind t (λ a m. bind (times_at (i + n) r m) (λ o rest. Done (a ∷ o) rest))) p.2 in
    ap (λ (j : ℕ). times_at j r s) k ∙ one ∙ ap (λ (t : Reading _ (List _)). bind t (λ o rest. Done (p.0 ∷ o) rest)) (times_add r i n p.1 q.1 q.0 q.2) ∙ with_more p.0 q.0 (times_at n r q.1)
    ∙ ap (λ (l : List _). with_front l (times_at n r q.1)) x ∙ ap (λ (l : List _). with_front xs (times_at n r l)) y

one_front : {X A : Type 0} (r : List X → Reading X A) (m rest : List X) (xs : List A) (x : A) → r m ≡ Done x rest → with_front xs (times_at 1 r m) ≡ Done (xs ++ x ∷ []) rest
unfolding times_at each_at
one_front r m rest xs x h = rw h refl

-- and then one more
pub times_push : {X A : Type 0} (r : List X → Reading X A) (i : ℕ) (s m rest : List X) (xs : List A) (x : A) → times_at i r s ≡ Done xs m → r m ≡ Done x rest → times_at (i + 1) r s ≡ Done (xs ++ x ∷ []) rest
times_push r i s m rest xs x e h = times_add r i 1 s m xs e ∙ one_front r m rest xs x h

pub front_both : {X A : Type 0} (xs ys : List A) (x : Reading X (List A)) → with_front xs (with_front ys x) ≡ with_front (xs ++ ys) x
front_both xs ys (Done zs rest) = ap (λ (t : List _). Done t rest) (sym (append_assoc xs ys zs))
front_both xs ys (Faulty f rest) = refl
front_both xs ys Incomplete = refl

several : {X A : Type 0} (r : List X → Reading X A) (xs ys zs : List A) (i j : ℕ) (s m : List X) (total : Reading X (List A)) → zs ≡ take i xs ++ ys → length zs ≡ length xs → i ≤ length xs → j ≤ length ys
    → times_at j r s ≡ Done (take j ys) m → total ≡ with_front (take i xs) (times_at (length xs - i) r s) → total ≡ with_front (take (i + j) zs) (times_at (length zs - (i + j)) r m)
several r xs ys zs i j s m total is same le few e h =
    let front : length (take i xs) ≡ i = length-take-le i xs le in
    let whole : length zs ≡ i + length ys = ap length is ∙ length-append (take i xs) ys ∙ ap (λ (n : ℕ). n + length ys) front in
    let k : length xs - i ≡ j + (length zs - (i + j)) = omega arith in
    let part : take (i + j) zs ≡ take i xs ++ take j ys = ap (take (i + j)) is ∙ take-add i j (take i xs ++ ys) ∙ (rw (take_at (take i xs) ys i front, drop_at (take i xs) ys i front) refl) in
    h ∙ ap (λ (n : ℕ). with_front (take i xs) (times_at n r s)) k ∙ ap (with_front (take i xs)) (times_add r j (length zs - (i + j)) s m (take j ys) e)
    ∙ front_both (take i xs) (take j ys) (times_at (length zs - (i + j)) r m) ∙ ap (λ (t : List _). with_front t (times_at (length zs - (i + j)) r m)) (sym part)

-- j more are read and put at i, where the rest of xs was ys before
pub times_several : {X A : Type 0} {read : List X → Reading X A} {n : ℕ} {xs : List A} {i : ℕ} (ys zs : List A) (j : ℕ) {a b c : State X} → zs ≡ take i xs ++ ys → length zs ≡ length xs → i ≤ length xs → j ≤ length ys
    → TimesSoFar read n xs i a b → Consumes b c (λ s m. times_at j read s ≡ Done (take j ys) m) → TimesSoFar read n zs (i + j) a c
times_several {read = read} {n = n} {xs = xs} {i = i} ys zs j {a = a} is same le few h k =
    record { so_far = consumes_then _ h.so_far k (λ p q. several read xs ys zs i j _ _ (times_at n read a.remaining) is same le few q p) }
