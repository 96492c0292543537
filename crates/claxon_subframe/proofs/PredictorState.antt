-- A predictor that restores samples two at a time.
use Rattle.std.proofs.Common.{◌≡◌, ℕ, ◌+◌, ◌<◌, List, ◌∷◌, length, take, reverse, get_or, set, Option, Some, Result, Ok, Err, refl, sym, ap, subst, ◌∙◌, ℤ, pos, ◌+ℤ◌}
use Rattle.std.specs.Prelude.{IfOk, IfSome, IsErrAnd}
use Rattle.std.proofs.lemmas.List.{length-set}
use Rattle.claxon_format.specs.read.Predict.{restored}
use Rattle.claxon_format.specs.Predict.{wrap, linear}
use Rattle.claxon_subframe.specs.PendingSums.{four_pending, AreNewest, IsFollowedByTwo}
use Rattle.claxon_subframe.specs.PredictorState.{StandsAt, AreRestored, AreRestoredOrStop}
use Rattle.claxon_subframe.specs.declared.subframe.predictor.lanes.NewestFive.{NewestFive}
use Rattle.claxon_subframe.specs.declared.subframe.predictor.lanes.PredictorState.{PredictorState}
use Rattle.claxon_subframe.proofs.Predictors.{restored_more}
use Rattle.claxon_subframe.proofs.RestoreLoopByTwo.{two_made, made_restored, made_past, made_newest}

pub none_restored : {S : Type 0} {Pending : List ℤ → S → Type 0} {p : List ℤ → ℤ} {xs : List ℤ} {i : ℕ} {s : PredictorState S} → StandsAt Pending xs i s → AreRestored Pending p xs i xs i s
none_restored h = record { kept = refl; same = refl; stands = h }

-- to place j, which is the place m
pub place_is : {S : Type 0} {Pending : List ℤ → S → Type 0} {p : List ℤ → ℤ} {xs ys : List ℤ} {i j : ℕ} {s : PredictorState S} (m : ℕ) → AreRestored Pending p xs i ys j s → j ≡ m → AreRestored Pending p xs i ys m s
place_is {S} {Pending} {p} {xs} {ys} {i} {j} {s} m h e = subst (λ (n : ℕ). AreRestored Pending p xs i ys n s) e h

-- first to place j, and from there, which is the place l, to place k
pub then_restored : {S : Type 0} {Pending : List ℤ → S → Type 0} {p : List ℤ → ℤ} {xs ys zs : List ℤ} {i j k l : ℕ} {s n : PredictorState S}
    → AreRestored Pending p xs i ys j s → (StandsAt Pending ys l s → AreRestored Pending p ys l zs k n) → j ≡ l → AreRestored Pending p xs i zs k n
then_restored {S} {Pending} {p} {xs} {ys} {zs} {i} {j} {k} {l} first second e =
    let at = place_is l first e in
    let next = second at.stands in
    record { kept = next.kept ∙ at.kept; same = next.same ∙ at.same; stands = next.stands }

-- the same where it went on from there, or stopped at place e, or either
pub then_ok : {S : Type 0} {Pending : List ℤ → S → Type 0} {p : List ℤ → ℤ} {xs ys zs : List ℤ} {i j k l : ℕ} {s n : PredictorState S}
    → AreRestored Pending p xs i ys j s → (StandsAt Pending ys l s → AreRestoredOrStop Pending p ys l zs k (Ok n)) → j ≡ l → AreRestored Pending p xs i zs k n
then_ok {S} {Pending} {p} {xs} {ys} {zs} {i} {j} {k} {l} {s} first second e = then_restored first (λ (h : StandsAt Pending ys l s). (second h).ok) e

pub then_err : {S : Type 0} {Pending : List ℤ → S → Type 0} {p : List ℤ → ℤ} {xs ys zs : List ℤ} {i j k l e : ℕ} {s : PredictorState S}
    → AreRestored Pending p xs i ys j s → (StandsAt Pending ys l s → AreRestoredOrStop Pending p ys l zs k (Err e)) → j ≡ l → restored p e zs ≡ restored p i xs
then_err {S} {Pending} {p} {xs} {ys} {zs} {i} {j} {k} {l} first second same_place =
    let at = place_is l first same_place in
    (second at.stands).err ∙ at.same

pub then_either : {S : Type 0} {Pending : List ℤ → S → Type 0} {p : List ℤ → ℤ} {xs ys zs : List ℤ} {i j k l : ℕ} {s : PredictorState S} (m : ℕ) (r : Result (PredictorState S) ℕ)
    → AreRestored Pending p xs i ys j s → (StandsAt Pending ys l s → AreRestoredOrStop Pending p ys l zs k r) → j ≡ l → k ≡ m → AreRestoredOrStop Pending p xs i zs m r
then_either m (Ok n) first second e to = record { ok = place_is m (then_ok first second e) to; err = tt }
then_either m (Err place) first second e to = record { ok = tt; err = then_err first second e }

-- what holds of the value in a result that is known to be Ok
pub of_ok : {T E : Type 0} (P : T → Type 0) {r : Result T E} {x : T} → r ≡ Ok x → IfOk r P → P x
of_ok {T} {E} P e h = subst (λ (r : Result T E). IfOk r P) e h

pub of_some : {T : Type 0} (P : T → Type 0) {r : Option T} {x : T} → r ≡ Some x → IfSome r P → P x
of_some {T} P e h = subst (λ (r : Option T). IfSome r P) e h

-- it stopped at place e
pub stopped : {S : Type 0} {Pending : List ℤ → S → Type 0} {p : List ℤ → ℤ} {xs zs : List ℤ} {i j : ℕ} (r : Result (PredictorState S) ℕ) (e : ℕ)
    → IsErrAnd r (λ place. place ≡ e) → restored p e zs ≡ restored p i xs → AreRestoredOrStop Pending p xs i zs j r
stopped (Ok n) e is same = absurd is
stopped {S} {Pending} {p} {xs} {zs} {i} {j} (Err place) e is same =
    record { ok = tt; err = ap (λ (n : ℕ). restored p n zs) is ∙ same }

-- the samples at i and j, which are stored as a and b, and added to the pending sums as v and w
pub pair_restored : {S : Type 0} (Pending : List ℤ → S → Type 0) (ks xs ws : List ℤ) (t i j k : ℕ) (x y a b v w : ℤ) (last : NewestFive) (s n : PredictorState S)
    → j ≡ i + 1 → k ≡ j + 1 → j < length xs → AreNewest ks last → StandsAt Pending xs i s → ws ≡ four_pending ks (reverse (take i xs)) 0
    → x ≡ get_or xs i (pos 0) → y ≡ get_or xs j (pos 0) → IsFollowedByTwo s.newest last ws x y t n.newest
    → a ≡ n.newest.second → b ≡ n.newest.newest → a ≡ v → b ≡ w → Pending (w ∷ v ∷ reverse (take i xs)) n.sums
    → AreRestored Pending (linear ks t) xs i (set (set xs i a) j b) k n
pair_restored Pending ks xs ws t i j k x y a b v w last s n ej ek lt new stands pending ex ey two ea eb ev ew sums =
    let made = two_made ks xs ws ws i j x y last s.newest n.newest t new stands.newest pending refl ex ey two in
    record {
      kept = length-set _ _ _ ∙ length-set xs _ _;
      same = made_restored ks xs stands.newest.rest t i j k a b s.newest n.newest ej ek lt ea eb made;
      stands = record {
        newest = made_newest ks xs t i j k a b s.newest n.newest stands.newest ej ek lt ea eb made;
        sums = subst (λ (l : List ℤ). Pending l n.sums) (made_past xs i j k a b v w ej ek lt ev ew) sums;
      };
    }

-- the sample at i, as the first of two
pub one_restored : {S : Type 0} (Pending : List ℤ → S → Type 0) (ks xs ws : List ℤ) (t i : ℕ) (x y a : ℤ) (last : NewestFive) (s : PredictorState S) (n : NewestFive)
    → i < length xs → AreNewest ks last → StandsAt Pending xs i s → ws ≡ four_pending ks (reverse (take i xs)) 0
    → x ≡ get_or xs i (pos 0) → IsFollowedByTwo s.newest last ws x y t n → a ≡ n.second
    → restored (linear ks t) (i + 1) (set xs i a) ≡ restored (linear ks t) i xs
one_restored Pending ks xs ws t i x y a last s n lt new stands pending ex two ea =
    let past = stands.newest in
    let next = two ks past.rest new (pending ∙ ap (λ (l : List ℤ). four_pending ks l 0) past.is) in
    restored_more (linear ks t) xs i a lt
    (ea ∙ next.second ∙ ap (λ (l : List ℤ). wrap (linear ks t l +ℤ x)) (sym past.is) ∙ ap (λ (v : ℤ). wrap (linear ks t (reverse (take i xs)) +ℤ v)) ex)

-- the samples before place m, which is the place n
pub place_restored : (p : List ℤ → ℤ) (xs : List ℤ) {whole : List ℤ} (m n : ℕ) → m ≡ n → restored p n xs ≡ whole → restored p m xs ≡ whole
place_restored p xs m n e same = ap (λ (k : ℕ). restored p k xs) e ∙ same
