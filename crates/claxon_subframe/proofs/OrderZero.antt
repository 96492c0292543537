-- A fixed predictor of order 0: the residual samples are the samples.
use Rattle.std.proofs.Common.{◌≡◌, ℕ, Bool, false, ltb, List, [], ◌∷◌, refl, ap, ◌∙◌, arith, ℤ, pos, ◌+ℤ◌, w32}
use Rattle.std.proofs.lemmas.Bool.{le-ltb}
use Rattle.std.proofs.lemmas.Int.{ints, int_wrap_fits}
use Rattle.claxon_format.specs.Bits.{Bits}
use Rattle.claxon_format.specs.read.Reading.{Reading, Done, Faulty, Incomplete, bind, done, times_at, each_at}
use Rattle.claxon_format.specs.read.Residual.{residual_at}
use Rattle.claxon_format.specs.read.Subframe.{fixed_at}
use Rattle.claxon_format.specs.Subframe.{AllFit}
use Rattle.claxon_format.specs.Predict.{wrap}
use Rattle.claxon_format.specs.read.Predict.{restore, fixed}
use Rattle.claxon_format.proofs.PredictorSubframes.{residual_fits}
use Rattle.claxon_format.proofs.Residuals.{Reads-residual}

restore_0 : (past xs : List ℤ) → AllFit xs → restore (fixed 0) past xs ≡ xs
restore_0 past [] h = refl
restore_0 past (x ∷ xs) h =
    let same : pos 0 +ℤ x ≡ x = omega (arith, ints) in
    let here : wrap (pos 0 +ℤ x) ≡ x = ap wrap same ∙ int_wrap_fits w32 x h.0 in
    ap (λ (t : List ℤ). wrap (pos 0 +ℤ x) ∷ t) (restore_0 (wrap (pos 0 +ℤ x) ∷ past) xs h.1) ∙ ap (λ (y : ℤ). y ∷ xs) here

same_samples : (n : ℕ) (s : Bits) (x : Reading Bool (List ℤ)) → residual_at n 0 s ≡ x → bind x (λ e. done (restore (fixed 0) [] e)) ≡ x
same_samples n s (Done e m) h = let t = (Reads-residual n 0).takes s e m h in ap (λ (l : List ℤ). Done l m) (restore_0 [] e (residual_fits n 0 e t.0 t.1).0)
same_samples n s (Faulty f m) h = refl
same_samples n s Incomplete h = refl

pub fixed_0_at : (w n : ℕ) (s : Bits) → fixed_at w n 0 s ≡ residual_at n 0 s
unfolding fixed_at times_at each_at
fixed_0_at w n s = let b : ltb n 0 ≡ false = le-ltb n 0 (omega arith) in rw b (same_samples n s (residual_at n 0 s) refl)
