-- Samples of which some stand already at the front.
use Rattle.std.proofs.Common.{◌≡◌, ℕ, ◌-◌, ◌≤◌, List, [], ◌∷◌, ◌++◌, length, take, drop, reverse, replicate, append_assoc, refl, sym, ap, ◌∙◌, arith, ℤ, pos, ◌+ℤ◌}
use Rattle.std.proofs.lemmas.List.{append-nil, drop_all, drop-drop, length-drop, length-reverse, length-take, take_all, reverse-append, reverse-reverse}
use borrow.Rule.Slice.PartMut.{put_mid}
use Rattle.claxon_format.specs.Predict.{wrap, floor_shift, linear}
use Rattle.claxon_format.specs.read.Predict.{restore, restored}
use Rattle.claxon_subframe.proofs.Predictors.{dot-append}
use Rattle.claxon_subframe.proofs.PaddedCoefficients.{restore_same, restored_front, linear_leading_zeros}
use Rattle.claxon_subframe.proofs.RestoreLoopByTwo.{past_split}

-- samples older than the coefficients reach don't count
linear_older : (ks : List ℤ) (t : ℕ) (past older : List ℤ) → length ks ≤ length past → linear ks t (past ++ older) ≡ linear ks t past
linear_older ks t past older le = ap (λ (v : ℤ). floor_shift v t) (dot-append ks past older le)

restore_older : (ks : List ℤ) (t : ℕ) (past older es : List ℤ) → length ks ≤ length past → restore (linear ks t) (past ++ older) es ≡ restore (linear ks t) past es
restore_older ks t past older [] le = refl
restore_older ks t past older (e ∷ es) le =
    ap (λ (v : ℤ). wrap (v +ℤ e) ∷ restore (linear ks t) (wrap (v +ℤ e) ∷ (past ++ older)) es) (linear_older ks t past older le)
    ∙ ap (λ (l : List ℤ). wrap (linear ks t past +ℤ e) ∷ l) (restore_older ks t (wrap (linear ks t past +ℤ e) ∷ past) older es (omega arith))

-- from n of the samples before place k on
pub tail_restored : (ks xs : List ℤ) (t n k : ℕ) → length ks ≤ n → n ≤ k → k ≤ length xs → take (k - n) xs ++ restored (linear ks t) n (drop (k - n) xs) ≡ restored (linear ks t) k xs
tail_restored ks xs t n k few le lt =
    let d : ℕ = k - n in
    let near : List ℤ = take n (drop d xs) in
    let long : length near ≡ n = length-take n (drop d xs) ∙ omega (arith, length-drop d xs) in
    let split : reverse near ++ reverse (take d xs) ≡ reverse (take k xs) = past_split xs d n k (omega arith) in
    let front : take d xs ++ near ≡ take k xs
    = sym (reverse-reverse (take d xs ++ near)) ∙ ap reverse (reverse-append (take d xs) near ∙ split) ∙ reverse-reverse (take k xs) in
    let rest : drop n (drop d xs) ≡ drop k xs = drop-drop n d xs ∙ ap (λ (m : ℕ). drop m xs) (omega arith) in
    let older : restore (linear ks t) (reverse near) (drop k xs) ≡ restore (linear ks t) (reverse (take k xs)) (drop k xs)
    = sym (restore_older ks t (reverse near) (reverse (take d xs)) (drop k xs) (omega (arith, length-reverse near))) ∙ ap (λ (l : List ℤ). restore (linear ks t) l (drop k xs)) split in
    sym (append_assoc (take d xs) near (restore (linear ks t) (reverse near) (drop n (drop d xs)))) ∙ ap (λ (l : List ℤ). l ++ restore (linear ks t) (reverse near) (drop n (drop d xs))) front
    ∙ ap (λ (l : List ℤ). take k xs ++ restore (linear ks t) (reverse near) l) rest ∙ ap (λ (l : List ℤ). take k xs ++ l) older

-- the first f samples, from the warm-up samples on
pub front_restored : (cs xs front : List ℤ) (t f : ℕ) → length cs ≤ f → f ≤ length xs → front ≡ restored (linear (reverse cs) t) (length cs) (take f xs)
    → restored (linear (reverse cs) t) f (front ++ drop f xs) ≡ restored (linear (reverse cs) t) (length cs) xs
front_restored cs xs front t f few lt e =
    ap (λ (l : List ℤ). restored (linear (reverse cs) t) f (l ++ drop f xs)) e ∙ restored_front (linear (reverse cs) t) (linear (reverse cs) t) (length cs) f xs few lt (λ l. refl)

-- the same samples with zeros before the coefficients
pub padded_restored : (cs padded xs : List ℤ) (t n k : ℕ) → padded ≡ replicate k (pos 0) ++ cs → restored (linear (reverse padded) t) n xs ≡ restored (linear (reverse cs) t) n xs
padded_restored cs padded xs t n k e =
    ap (λ (l : List ℤ). take n xs ++ l) (restore_same (linear (reverse padded) t) (linear (reverse cs) t) (reverse (take n xs)) (drop n xs) (λ l. ap (λ (z : List ℤ). linear (reverse z) t l) e ∙ linear_leading_zeros k cs t l))

-- the samples before place k stand, and the others are restored from as many of them as there are coefficients
pub rest_restored : (cs reversed mid tail xs : List ℤ) (t k : ℕ) → reversed ≡ reverse cs → length reversed ≤ k → k ≤ length mid
    → tail ≡ restored (linear (reverse reversed) t) (length reversed) (take (length mid - (k - length reversed)) (drop (k - length reversed) mid)) → restored (linear (reverse reversed) t) k mid ≡ restored (linear (reverse reversed) t) (length reversed) xs
    → put_mid (k - length reversed) (length mid - (k - length reversed)) mid tail ≡ restored (linear cs t) (length cs) xs
rest_restored cs reversed mid tail xs t k er le lt et e =
    let d : ℕ = k - length reversed in
    let part : take (length mid - d) (drop d mid) ≡ drop d mid = take_all (length mid - d) (drop d mid) (omega (arith, length-drop d mid)) in
    let gone : drop (length mid - d) (drop d mid) ≡ [] = drop_all (length mid - d) (drop d mid) (omega (arith, length-drop d mid)) in
    let twice : reverse reversed ≡ cs = ap reverse er ∙ reverse-reverse cs in
    let long : length reversed ≡ length cs = ap length er ∙ length-reverse cs in
    ap (λ (l : List ℤ). take d mid ++ (tail ++ l)) gone ∙ ap (λ (l : List ℤ). take d mid ++ l) (append-nil tail ∙ et ∙ ap (restored (linear (reverse reversed) t) (length reversed)) part)
    ∙ tail_restored (reverse reversed) mid t (length reversed) k (omega (arith, length-reverse reversed)) le lt ∙ e
    ∙ ap (λ (l : List ℤ). restored (linear l t) (length reversed) xs) twice ∙ ap (λ (n : ℕ). restored (linear cs t) n xs) long

-- the first f samples by the plain sum, those up to place k with zeros before the coefficients, and the others by the plain sum again
pub all_restored : (cs padded front mid tail xs : List ℤ) (t f n k m : ℕ) → length cs ≤ f → f ≤ length xs → n ≡ f → f ≤ k → k ≤ length mid → padded ≡ replicate m (pos 0) ++ cs → front ≡ restored (linear (reverse cs) t) (length cs) (take f xs)
    → restored (linear (reverse padded) t) k mid ≡ restored (linear (reverse padded) t) n (front ++ drop f xs)
    → tail ≡ restored (linear (reverse cs) t) (length cs) (take (length mid - (k - length cs)) (drop (k - length cs) mid))
    → put_mid (k - length cs) (length mid - (k - length cs)) mid tail ≡ restored (linear (reverse cs) t) (length cs) xs
all_restored cs padded front mid tail xs t f n k m few lt same le most e ef em et =
    let plain = λ (j : ℕ) (ys : List ℤ). padded_restored cs padded ys t j m e in
    let whole : restored (linear (reverse cs) t) k mid ≡ restored (linear (reverse cs) t) (length cs) xs
    = sym (plain k mid) ∙ em ∙ plain n (front ++ drop f xs) ∙ ap (λ (j : ℕ). restored (linear (reverse cs) t) j (front ++ drop f xs)) same ∙ front_restored cs xs front t f few lt ef in
    rest_restored (reverse cs) cs mid tail xs t k (sym (reverse-reverse cs)) (omega arith) most et whole ∙ ap (λ (j : ℕ). restored (linear (reverse cs) t) j xs) (length-reverse cs)
