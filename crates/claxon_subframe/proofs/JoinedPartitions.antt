-- The residual samples of consecutive partitions.
use Rattle.std.proofs.Common.{◌≡◌, ℕ, zero, suc, ◌+◌, Bool, List, [], ◌∷◌, ◌++◌, replicate, refl, sym, ap, ◌∙◌, append_assoc, arith, ℤ}
use Rattle.std.specs.List.{flat_map}
use Rattle.std.proofs.lemmas.List.{append-nil}
use Rattle.claxon_format.proofs.Laws.{bind_done}
use Rattle.claxon_format.specs.Bits.{Bits}
use Rattle.claxon_format.specs.read.Reading.{Reading, Done, Faulty, Incomplete, bind, done, each_at}
use Rattle.claxon_format.specs.read.Residual.{joined_at}
use Rattle.claxon_input.proofs.FieldLoops.{with_front, front_none, front_both}

regroup : (front es : List ℤ) (x : Reading Bool (List (List ℤ))) → with_front front (bind (bind x (λ others rest. Done (es ∷ others) rest)) (λ partitions. done (flat_map (λ x. x) partitions)))
    ≡ with_front (front ++ es) (bind x (λ partitions. done (flat_map (λ x. x) partitions)))
regroup front es (Done others rest) = ap (λ (t : List ℤ). Done t rest) (sym (append_assoc front es (flat_map (λ x. x) others)))
regroup front es (Faulty f rest) = refl
regroup front es Incomplete = refl

-- the first partition, then the others
pub joined_first : (r : ℕ → Bits → Reading Bool (List ℤ)) (l : ℕ) (ls : List ℕ) (s m : Bits) (es : List ℤ) → r l s ≡ Done es m → joined_at r (l ∷ ls) s ≡ with_front es (joined_at r ls m)
unfolding each_at
joined_first r l ls s m es e = rw e (sym (front_none _) ∙ regroup [] es (each_at r ls m))

front_done : (front : List ℤ) (x : Reading Bool (List ℤ)) (xs : List ℤ) (m : Bits) → with_front front x ≡ Done xs m → (ys : List ℤ) × (x ≡ Done ys m) × (front ++ ys ≡ xs)
front_done front (Done ys rest) xs m e = (ys, (let p : rest ≡ m = cc in ap (Done ys) p), cc)
front_done front (Faulty f rest) xs m e = absurd cc
front_done front Incomplete xs m e = absurd cc

-- i partitions, then n more
pub joined_add : (r : ℕ → Bits → Reading Bool (List ℤ)) (each i n : ℕ) (s m : Bits) (xs : List ℤ) → joined_at r (replicate i each) s ≡ Done xs m → joined_at r (replicate (i + n) each) s ≡ with_front xs (joined_at r (replicate n each) m)
unfolding each_at
joined_add r each zero n s m xs e =
    let k : 0 + n ≡ n = omega arith in
    let p : [] ≡ xs = cc in
    let q : s ≡ m = cc in
    rw (k, ← p, ← q) (sym (front_none (joined_at r (replicate n each) s)))
joined_add r each (suc i) n s m xs e =
    let k : suc i + n ≡ suc (i + n) = omega arith in
    let p = bind_done (each_at r (replicate (suc i) each) s) (λ partitions rest. Done (flat_map (λ x. x) partitions) rest) xs m e in
    let q = bind_done (r each s) (λ es t. _) p.0 p.1 p.2 in
    let f = front_done q.0 (joined_at r (replicate i each) q.1) xs m (sym (joined_first r each (replicate i each) s q.1 q.0 q.2) ∙ e) in
    ap (λ (j : ℕ). joined_at r (replicate j each) s) k ∙ joined_first r each (replicate (i + n) each) s q.1 q.0 q.2 ∙ ap (with_front q.0) (joined_add r each i n q.1 m f.0 f.1)
    ∙ front_both q.0 f.0 (joined_at r (replicate n each) m) ∙ ap (λ (l : List ℤ). with_front l (joined_at r (replicate n each) m)) f.2

pub joined_push : (r : ℕ → Bits → Reading Bool (List ℤ)) (each i : ℕ) (s m rest : Bits) (xs ys : List ℤ) → joined_at r (replicate i each) s ≡ Done xs m → r each m ≡ Done ys rest → joined_at r (replicate (i + 1) each) s ≡ Done (xs ++ ys) rest
unfolding each_at
joined_push r each i s m rest xs ys e h =
    joined_add r each i 1 s m xs e ∙ ap (with_front xs) (joined_first r each [] m rest ys h) ∙ ap (λ (l : List ℤ). Done (xs ++ l) rest) (append-nil ys)
