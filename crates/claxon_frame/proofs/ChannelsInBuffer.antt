-- The channels of a block, one after another in a buffer.
use Rattle.std.proofs.Common.{Some, ◌≡◌, ℕ, zero, suc, ℤ, ◌+◌, ◌*◌, ◌<◌, ◌≤◌, List, ◌++◌, length, take, drop, refl, ap, sym, ◌∙◌, arith, length-drop}
use Rattle.std.specs.Prelude.{slice_get}
use Rattle.std.proofs.lemmas.List.{take-append-drop, length-take-le, drop_all}
use Rattle.std.proofs.lemmas.Grind.{common_steps}
use Rattle.claxon_frame.specs.Block.{AreOfLength, chunks, joined}
use Rattle.claxon_format.specs.Streams.{duration_of}

pub length-chunks : (k n : ℕ) (xs : List ℤ) → length (chunks k n xs) ≡ k
length-chunks zero n xs = refl
length-chunks (suc k) n xs = ap suc (length-chunks k n (drop n xs))

pub duration-chunks : (k n : ℕ) (xs : List ℤ) → length xs ≡ k * n → (k ≡ 0 → n ≡ 0) → duration_of (chunks k n xs) ≡ n
duration-chunks zero n xs e z = sym (z refl)
duration-chunks (suc k) n xs e z = length-take-le n xs (omega arith)

pub lengths-chunks : (k n : ℕ) (xs : List ℤ) → length xs ≡ k * n → AreOfLength n (chunks k n xs)
lengths-chunks zero n xs e i d below = absurd (omega arith)
lengths-chunks (suc k) n xs e zero d below = length-take-le n xs (omega arith)
lengths-chunks (suc k) n xs e (suc i) d below = lengths-chunks k n (drop n xs) (omega (arith, length-drop n xs)) i d (omega arith)

pub joined-chunks : (k n : ℕ) (xs : List ℤ) → length xs ≡ k * n → joined (chunks k n xs) ≡ xs
joined-chunks zero n xs e = sym (drop_all 0 xs (omega arith))
joined-chunks (suc k) n xs e = ap (λ t. take n xs ++ t) (joined-chunks k n (drop n xs) (omega (arith, length-drop n xs))) ∙ take-append-drop n xs

pub drop_drop : (m n k : ℕ) (xs : List ℤ) → k ≡ m + n → drop n (drop m xs) ≡ drop k xs
drop_drop m n k xs e = grind (arith, common_steps)

pub get-chunks : (k n ch : ℕ) (xs : List ℤ) → ch < k → slice_get (chunks k n xs) ch ≡ Some (take n (drop (ch * n) xs))
get-chunks zero n ch xs h = absurd (omega arith)
get-chunks (suc k) n zero xs h = grind (arith, common_steps)
get-chunks (suc k) n (suc ch) xs h = get-chunks k n ch (drop n xs) (omega arith) ∙ ap (λ t. Some (take n t)) (drop_drop n (ch * n) (suc ch * n) xs (omega arith))

pub chunk_ends : (k n ch : ℕ) → ch < k → ch * n + n ≤ k * n
chunk_ends k n ch h = grind arith

-- the same part of a list, by other bounds
pub same_part : {n m k l : ℕ} (xs : List ℤ) → n ≡ k → m ≡ l → Some (take n (drop m xs)) ≡ Some (take k (drop l xs))
same_part xs e f = rw (e, f) refl

pub length-part : {n k : ℕ} (m : ℕ) (xs : List ℤ) → n ≡ k → m + k ≤ length xs → length (take n (drop m xs)) ≡ k
length-part {n} {k} m xs e below = rw e (length-take-le k (drop m xs) (omega (arith, length-drop m xs)))
